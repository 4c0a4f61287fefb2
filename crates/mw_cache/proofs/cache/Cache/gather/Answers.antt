use Rattle.std.proofs.Common.{◌++◌, ◌∷◌, [], map, position, sym, ap, subst, ◌∙◌}
use Rattle.std.specs.Str.{bytes_eq}
use Rattle.mw_cache.specs.Gathering.{kept_at, IsGathered}
use Rattle.mw_cache.proofs.LoadedTexts.{loaded, unloaded}
use Rattle.mw_cache.proofs.ModuleMap.{gathered_with, gathered_loaded}
use Rattle.mw_cache.proofs.cache.Cache.gather.Goals as goal

pub returns-in_ok-insert : goal.returns-in_ok-insert
returns-in_ok-insert c = λ texts g.
    let load = c.args.self.now.load in let text = c.args.entry.now.text in
    let none = unloaded load text c.find.result c.is_none.result
    (c.find.ensures ∙ ap (λ t. position (λ l. bytes_eq t l.text) c.load.result.now.records) c.text.ensures.text
    ∙ ap (λ s. position (λ l. bytes_eq text l.text) s.records) c.load.ensures) c.is_none.ensures c.if-is_none.true in
    subst (λ es. IsGathered load (texts ++ text ∷ []) (map kept_at es)) (sym c.in_ok-insert.ensures.entries)
    (gathered_with load texts text c.args.entry.now.bytes c.text-then-is_none.result c.bytes.result
    c.args.modules.now.entries
    c.text-then-is_none.ensures.text c.bytes.ensures.bytes none c.text.ensures.kept.is_emission g)

pub returns-else-is_none : goal.returns-else-is_none
returns-else-is_none c = λ texts g.
    let load = c.args.self.now.load in let text = c.args.entry.now.text in
    gathered_loaded load texts text _ (loaded load text c.find.result c.is_none.result
    (c.find.ensures ∙ ap (λ t. position (λ l. bytes_eq t l.text) c.load.result.now.records) c.text.ensures.text
    ∙ ap (λ s. position (λ l. bytes_eq text l.text) s.records) c.load.ensures) c.is_none.ensures c.if-is_none.false) g
