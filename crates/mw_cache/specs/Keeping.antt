-- What is to be kept of entries.
use Rattle.std.specs.Prelude.{◌≡◌, ℕ, ◌⊎◌, List, map, Contains}
use Rattle.std.specs.Cmp.Lexicographic.{slice_cmp}
use Rattle.std.specs.Ordering.{nat_cmp}
use Rattle.std.specs.List.Sorted.{IsStrictlySortedBy}
use Rattle.mw_store.specs.Records.{Kept, record_bytes}
use Rattle.mw_store.specs.Loads.{LoadState}
use Rattle.mw_compile.specs.Emission.{IsEmissionOf}
use Rattle.mw_cache.specs.Gots.{IsLoadedText}

-- Their texts rise in the order of bytes, so that none stands twice. Each is one of these texts, none of them was
-- loaded, and the module's bytes are the emission. All of these texts that weren't loaded are there.
pub record AreToKeep (load : LoadState) (texts : List (List ℕ)) (ks : List Kept) : Type 0 where
  pub rise : IsStrictlySortedBy (slice_cmp nat_cmp) (map (λ k. k.text) ks)
  pub among : (k : Kept) → Contains ks k → Contains texts k.text
  pub unloaded : (k : Kept) → Contains ks k → IsLoadedText load k.text → ⊥
  pub emission : (k : Kept) → Contains ks k → IsEmissionOf k.bytes k.text
  pub all : (text : List ℕ) → Contains texts text → IsLoadedText load text ⊎ Contains (map (λ k. k.text) ks) text

-- the bytes of their records
abbrev pub AreRecordsOf : LoadState → List (List ℕ) → List (List ℕ) → Type 0
AreRecordsOf load texts records = (ks : List Kept) × AreToKeep load texts ks × (records ≡ map record_bytes ks)
