-- The digest that a fault tells, where only one record of a cache file may be not honest.
use Rattle.std.proofs.Common.{◌≡◌, ◌⊎◌, inl, inr, ℕ, zero, suc, List, [], ◌∷◌, map, Some, refl, sym, ap, ◌∙◌, subst}
use Rattle.std.proofs.Common.{arith}
use Rattle.std.specs.Prelude.{slice_get}
use Rattle.sha2.specs.Sha256.{sha256}
use Rattle.mw_wasm.specs.BinaryModules.{Spells}
use Rattle.mw_wasm.proofs.FormatModules.{one_module}
use Rattle.mw_meaning.specs.StandingFor.{StandsFor}
use Rattle.mw_meaning.proofs.StrayModules.{standing_is_not_stray}
use Rattle.mw_key.specs.declared.version.Version.TheVariants.{Two}
use Rattle.mw_store.specs.Records.{Kept}
use Rattle.mw_store.specs.Loads.{Loaded, LoadState, IsLoadOf, kept_of, firsts}
use Rattle.mw_store.proofs.Files.{load_same}
use Rattle.mw_compile.specs.Emission.{emission, IsEmissionOf}
use Rattle.mw_compile.proofs.EmittedEntries.{each_emission, one_emission}
use Rattle.mw_cached.specs.StrayRecords.{IsStrayRecord}
use Rattle.mw_drive.specs.BadRecords.{of_run, IsHonestBut, DigestOfTheOne}

-- a stray record hasn't the emission of its text
stray_not_honest : (load : LoadState) (digest : List ℕ) (stray : IsStrayRecord load digest)
    → IsEmissionOf stray.loaded.bytes stray.loaded.text → ⊥
stray_not_honest load digest stray honest =
    let l = stray.loaded in
    let c = stray.code in
    let k = stray.kind in
    let bytes : l.bytes ≡ emission Two c k = one_emission l.text l.bytes (emission Two c k) honest
    record { version = Two; code = c; kind = k; is_text = stray.is_text; is_emission = refl } in
    let e = each_emission l.text Two c k stray.is_text in
    let same = one_module (emission Two c k) stray.wasm _ (subst (λ bs. Spells bs stray.wasm) bytes stray.spelled)
    e.spelled in
    standing_is_not_stray stray.wasm c k (subst (λ x. StandsFor x c k) (sym same) e.stands) stray.typed stray.stray

-- records are loaded with what is kept of them
same_record : (a b : Loaded) → kept_of a ≡ kept_of b → a ≡ b
same_record a b is = ap loaded is
  where
    loaded : Kept → Loaded
    loaded k = record { text = k.text; bytes = k.bytes }

same_records : (ls ms : List Loaded) → map kept_of ls ≡ map kept_of ms → ls ≡ ms
same_records [] [] is = refl
same_records [] (m ∷ ms) is = absurd (cc)
same_records (l ∷ ls) [] is = absurd (cc)
same_records (l ∷ ls) (m ∷ ms) is =
    let first : l ≡ m = same_record l m (cc) in
    let rest : ls ≡ ms = same_records ls ms (cc) in
    ap (λ x. x ∷ ls) first ∙ ap (λ xs. m ∷ xs) rest

one_records : (held : List ℕ) (a b : LoadState) → IsLoadOf held a → IsLoadOf held b → a.records ≡ b.records
one_records held a b h g =
    let same = load_same held h.0 g.0 a.good b.good h.1 g.1 in
    same_records a.records b.records (h.2 ∙ ap firsts same.0 ∙ sym g.2)

same_or_other : (m n : ℕ) → (m ≡ n) ⊎ (m ≡ n → ⊥)
same_or_other zero zero = inl refl
same_or_other zero (suc n) = inr (λ e. absurd (omega (arith, e)))
same_or_other (suc m) zero = inr (λ e. absurd (omega (arith, e)))
same_or_other (suc m) (suc n) = elim (same_or_other m n) [
  | inl e ↦ inl (ap suc e)
  | inr other ↦ inr (λ e. other (omega (arith, e)))
]

record_digest : (held digest : List ℕ) (load : LoadState) → IsLoadOf held load → (own : LoadState) → IsLoadOf held own
    → (stray : IsStrayRecord own digest) (one : ℕ) (r : Loaded) → slice_get load.records one ≡ Some r
    → IsHonestBut load one → stray.loaded ≡ r
record_digest held digest load is own also stray one r here honest =
    let there : slice_get load.records stray.at ≡ Some stray.loaded =
    ap (λ ls. slice_get ls stray.at) (one_records held load own is also) ∙ stray.here in
    elim (same_or_other stray.at one) [
      | inl same ↦ some_same (sym there ∙ ap (slice_get load.records) same ∙ here)
      | inr other ↦ absurd (stray_not_honest own digest stray (honest stray.at stray.loaded there other))
    ]
  where
    some_same : {a b : Loaded} → Some a ≡ Some b → a ≡ b
    some_same is = cc

pub digest_of_the_one : DigestOfTheOne
digest_of_the_one work held digest (of_run p read accepted bad) load is one r here honest =
    sym bad.stray.digest_is
    ∙ ap (λ (l : Loaded). sha256 l.text)
    (record_digest held digest load is bad.load bad.is_load bad.stray one r here honest)
