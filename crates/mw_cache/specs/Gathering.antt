-- Modules that are gathered to be kept.
use Rattle.std.specs.Prelude.{ℕ, ◌<◌, ◌^◌, ◌⊎◌, List, length, map, Contains}
use Rattle.std.specs.List.{AllByRecursion}
use denote.Ref.{Bor}
use Rattle.mw_store.specs.Records.{Kept}
use Rattle.mw_store.specs.Loads.{LoadState}
use Rattle.mw_compile.specs.Emission.{IsEmissionOf}
use Rattle.mw_cache.specs.Gots.{IsLoadedText}

-- a text beside the bytes of its module
abbrev pub kept_at : Bor (List ℕ) × Bor (List ℕ) → Kept
kept_at e = record { text = e.0.now; bytes = e.1.now }

-- both are shorter than 2^32
abbrev pub IsShort : Kept → Type 0
IsShort k = (length k.text < 2 ^ 32) × (length k.bytes < 2 ^ 32)

-- one of the texts, which wasn't loaded, with its emission
pub record IsToKeep (load : LoadState) (texts : List (List ℕ)) (k : Kept) : Type 0 where
  pub among : Contains texts k.text
  pub unloaded : IsLoadedText load k.text → ⊥
  pub emission : IsEmissionOf k.bytes k.text

-- each is to be kept, and all texts that weren't loaded are there
pub record IsGathered (load : LoadState) (texts : List (List ℕ)) (ks : List Kept) : Type 0 where
  pub each : AllByRecursion (IsToKeep load texts) ks
  pub all : (text : List ℕ) → Contains texts text → IsLoadedText load text ⊎ Contains (map (λ k. k.text) ks) text
