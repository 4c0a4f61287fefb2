-- Cache files whose records have the emissions of their texts.
use Rattle.std.specs.Prelude.{◌≡◌, ℕ, List, Contains, Some, slice_get}
use Rattle.mw_store.specs.Records.{Kept}
use Rattle.mw_store.specs.Loads.{Loaded, LoadState, IsLoad}
use Rattle.mw_compile.specs.Emission.{IsEmissionOf}

-- each record that counts has the emission of its text
abbrev pub AreHonestBytes : List ℕ → Type 0
AreHonestBytes bytes = (rs : List Kept) (good : ℕ) → IsLoad bytes rs good → (r : Kept) → Contains rs r
    → IsEmissionOf r.bytes r.text

-- each record that was loaded has the emission of its text
abbrev pub IsHonest : LoadState → Type 0
IsHonest load = (at : ℕ) (l : Loaded) → slice_get load.records at ≡ Some l → IsEmissionOf l.bytes l.text
