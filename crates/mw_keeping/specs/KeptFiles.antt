-- What a cache file holds after a run that had it.
use Rattle.std.specs.Prelude.{◌≡◌, ℕ, ◌+◌, ◌-◌, ◌<◌, ◌≤◌, ◌⊎◌, List, [], ◌∷◌, ◌++◌, length, map, take, Contains, nat_lt}
use Rattle.std.specs.Prelude.{if◌then◌else◌}
use Rattle.std.specs.Cmp.Lexicographic.{slice_cmp}
use Rattle.std.specs.Ordering.{nat_cmp}
use Rattle.std.specs.declared.cmp.Ordering.TheVariants.{Less, Greater}
use Rattle.std.specs.List.Sorted.{IsStrictlySortedBy}
use Rattle.mw_store.specs.Records.{Kept, record_bytes, file_of}
use Rattle.mw_store.specs.Loads.{LoadState, IsLoadOf, file_limit}
use Rattle.mw_compile.specs.Emission.{IsEmissionOf}
use Rattle.mw_cache.specs.Gots.{IsLoadedText}

-- Records behind those that were loaded: their texts rise in the order of bytes, each is one of these texts, none of
-- them was loaded, each module is the emission of its text, and all of them end within the limit.
pub record AreKept (load : LoadState) (wanted : List (List ℕ)) (ks : List Kept) : Type 0 where
  pub rise : IsStrictlySortedBy (slice_cmp nat_cmp) (map (λ k. k.text) ks)
  pub among : (k : Kept) → Contains ks k → Contains wanted k.text
  pub unloaded : (k : Kept) → Contains ks k → IsLoadedText load k.text → ⊥
  pub emission : (k : Kept) → Contains ks k → IsEmissionOf k.bytes k.text
  pub within : load.good + length (file_of ks) ≤ file_limit

-- The next record would have ended past the limit: that of the least of these texts that wasn't loaded and isn't kept.
pub record HasNoRoom (load : LoadState) (wanted : List (List ℕ)) (ks : List Kept) : Type 0 where
  pub next : Kept
  pub among : Contains wanted next.text
  pub unloaded : IsLoadedText load next.text → ⊥
  pub emission : IsEmissionOf next.bytes next.text
  pub above : (k : Kept) → Contains ks k → slice_cmp nat_cmp k.text next.text ≡ Less
  pub least : (text : List ℕ) → Contains wanted text
      → IsLoadedText load text ⊎ Contains (map (λ k. k.text) ks) text ⊎ (slice_cmp nat_cmp next.text text ≡ Greater → ⊥)
  pub past : file_limit < load.good + length (file_of (ks ++ next ∷ []))

-- the text was loaded, or kept, or there was no more room
abbrev pub IsCovered : LoadState → List (List ℕ) → List Kept → List ℕ → Type 0
IsCovered load wanted ks text =
    IsLoadedText load text ⊎ Contains (map (λ k. k.text) ks) text ⊎ HasNoRoom load wanted ks

-- A file that held these bytes has the records of it that counted, and then others that are kept, so that each of the
-- wanted texts is covered.
pub record IsKeptFile (held after : List ℕ) (wanted : List (List ℕ)) : Type 0 where
  pub load : LoadState
  pub is_load : IsLoadOf held load
  pub records : List Kept
  pub are : AreKept load wanted records
  pub file : after ≡ take load.good held ++ file_of records
  pub covered : (text : List ℕ) → Contains wanted text → IsCovered load wanted records text

-- a file is kept so for some texts
abbrev pub IsKept : (held after : List ℕ) → Type 0
IsKept held after = (wanted : List (List ℕ)) × IsKeptFile held after wanted

-- a file begins with the records that counted of what it held
abbrev pub HasGoodFront : (held after : List ℕ) → Type 0
HasGoodFront held after =
    (load : LoadState) → IsLoadOf held load → (rest : List ℕ) × (after ≡ take load.good held ++ rest)

-- those of the records, from the first on, that have room for all of their bytes
abbrev pub fitting : ℕ → List Kept → List Kept
fitting room [] = []
fitting room (k ∷ ks) =
    if nat_lt room (length (record_bytes k)) then [] else k ∷ fitting (room - length (record_bytes k)) ks
