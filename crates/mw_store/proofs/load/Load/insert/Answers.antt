use Rattle.std.proofs.Common.{◌≡◌, ◌≤◌, ◌+◌, ℕ, Vec, Global, ◌++◌, ◌∷◌, [], ◌∙◌, ap, sym, subst, map, length, arith}
use Rattle.std.specs.List.{All}
use Rattle.std.proofs.lemmas.List.{length-append, length-map}
use Rattle.std.proofs.lemmas.List.Elements.{All-push}
use Rattle.mw_store.specs.declared.loaded.LoadedModule.{LoadedModule}
use Rattle.mw_store.specs.Loads.{kept_of, IsLoaded}
use Rattle.mw_store.specs.Entries.{record_in}
use Rattle.mw_store.proofs.MapEntries.{inserted_as, one_more, loaded_is}
use Rattle.mw_store.proofs.load.Load.insert.Goals as goal

-- the entries with the new one
entries : (c : goal.Joined-branch-4) → c.insert.new.self.entries ≡ c.self.inside.records.entries ++
    (c.in_ok-text.text, c.in_ok-loaded.loaded) ∷ []
entries c = c.in_ok-insert.ensures.entries
    ∙ inserted_as c.in_ok-text.text c.in_ok-loaded.loaded c.self.inside.records.entries
    c.args.self.now.records c.args.found.text.now c.in_ok-text.ensures.items
    (ap (λ s. s.records) c.self.view_is) c.requires.other

pub invariant_of-self-2 : goal.invariant_of-self-2
invariant_of-self-2 c =
    let es = c.self.inside.records.entries in
    let e : Vec ℕ Global × LoadedModule = (c.in_ok-text.text, c.in_ok-loaded.loaded) in
    let one : IsLoaded (record_in e) = loaded_is
    (record_in e) c.args.found.text.now c.args.found.bytes.now c.in_ok-text.ensures.items
    c.in_ok-loaded.ensures c.requires.whole c.requires.within in
    let all : All (λ x. IsLoaded (record_in x)) (es ++ e ∷ []) = All-push
    (λ x. IsLoaded (record_in x)) es e c.self.invariant.0 one in
    let size : length (es ++ e ∷ []) ≡ length es + 1 = length-append es (e ∷ []) in
    let records : length es ≡ length c.args.self.now.records = sym (length-map es record_in) ∙ ap
    (λ s. length s.records) c.self.view_is in
    let good : c.self.inside.good ≡ c.args.self.now.good = ap (λ s. s.good) c.self.view_is in
    let more = c.requires.more in (
      subst (λ xs. All (λ x. IsLoaded (record_in x)) xs) (sym (entries c)) all,
      subst (λ xs. length xs ≤ c.self.inside.good) (sym (entries c)) (omega (arith, size, records, good, more)),
      c.self.invariant.2,
    )

pub returns-clause-records : goal.returns-clause-records
returns-clause-records c =
    let e : Vec ℕ Global × LoadedModule = (c.in_ok-text.text, c.in_ok-loaded.loaded) in
    ap (λ xs. map kept_of (map record_in xs)) (entries c)
    ∙ one_more c.self.inside.records.entries e c.args.self.now.records _ (ap (λ s. s.records) c.self.view_is)
    (λ i. record { text = c.in_ok-text.ensures.items i; bytes = c.in_ok-loaded.ensures i })
