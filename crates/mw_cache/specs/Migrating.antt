-- Loaded texts of version One, and the records of the same code and type in version Two.
use Rattle.std.specs.Prelude.{◌≡◌, ◌⊎◌, ℕ, suc, List, [], ◌∷◌, ◌++◌, map}
use Rattle.mw_term.specs.Terms.{Expression, KernelType}
use Rattle.mw_key.specs.CanonicalText.{IsTextOf, canonical_text}
use Rattle.mw_key.specs.declared.version.Version.TheVariants.{One, Two}
use Rattle.mw_store.specs.Records.{Kept, record_bytes}
use Rattle.mw_store.specs.Loads.{Loaded, LoadState}
use Rattle.mw_compile.specs.Emission.{emission}
use Rattle.mw_cache.specs.Gots.{IsLoadedText}

-- the text of code at a type in version Two, with its emission
abbrev pub anew : Expression → KernelType → Kept
anew c k = record { text = canonical_text Two c k; bytes = emission Two c k }

-- Of these loaded records, so many have a text of version One, and these records are added for them, in the same order.
-- A record of version Two adds none. One of version One adds that of the same code and type in version Two, unless this
-- text was loaded.
pub data Migrate (load : LoadState) : List Loaded → ℕ → List Kept → Type 0 where
  no_record : Migrate load [] 0 []
  of_two : {l : Loaded} {ls : List Loaded} {n : ℕ} {ks : List Kept} (c : Expression) (k : KernelType)
      → IsTextOf l.text Two c k → Migrate load ls n ks → Migrate load (l ∷ ls) n ks
  of_one_known : {l : Loaded} {ls : List Loaded} {n : ℕ} {ks : List Kept} (c : Expression) (k : KernelType)
      → IsTextOf l.text One c k → IsLoadedText load (canonical_text Two c k) → Migrate load ls n ks
      → Migrate load (l ∷ ls) (suc n) ks
  of_one_anew : {l : Loaded} {ls : List Loaded} {n : ℕ} {ks : List Kept} (c : Expression) (k : KernelType)
      → IsTextOf l.text One c k → (IsLoadedText load (canonical_text Two c k) → ⊥) → Migrate load ls n ks
      → Migrate load (l ∷ ls) (suc n) (anew c k ∷ ks)

-- of these loaded records so many have a text of version One, and these are the bytes of the records that are added
abbrev pub AreMigrated : LoadState → List Loaded → ℕ → List (List ℕ) → Type 0
AreMigrated load ls old records = (ks : List Kept) × Migrate load ls old ks × (records ≡ map record_bytes ks)

-- so many texts of version One were loaded, and these are the bytes of the records that are added for them
abbrev pub IsMigrationOf : LoadState → ℕ → List (List ℕ) → Type 0
IsMigrationOf load old records = AreMigrated load load.records old records

-- the record of code at a type in version Two was added at the end, unless its text was loaded
abbrev pub AddsAnew : LoadState → Expression → KernelType → List (List ℕ) → List (List ℕ) → Type 0
AddsAnew load c k before after = (IsLoadedText load (canonical_text Two c k) × (after ≡ before))
    ⊎ ((IsLoadedText load (canonical_text Two c k) → ⊥) × (after ≡ before ++ record_bytes (anew c k) ∷ []))
