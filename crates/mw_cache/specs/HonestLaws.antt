-- Laws of files whose records have the emissions of their texts.
use Rattle.std.specs.Prelude.{◌≡◌, ◌↔◌, ℕ, List, ◌++◌, take, Contains}
use Rattle.mw_store.specs.Records.{Kept, file_of, IsWhole}
use Rattle.mw_store.specs.Loads.{LoadState, IsLoad, IsLoadOf, file_limit}
use Rattle.mw_compile.specs.Emission.{IsEmissionOf}
use Rattle.mw_cache.specs.HonestFiles.{AreHonestBytes, IsHonest}

abbrev pub HonestBytesLoadHonestly : Type 0
HonestBytesLoadHonestly = (bytes : List ℕ) (load : LoadState) → AreHonestBytes bytes → IsLoadOf bytes load
    → IsHonest load

-- what stands behind the limit says nothing
abbrev pub HonestFront : Type 0
HonestFront = (bytes : List ℕ) → AreHonestBytes (take file_limit bytes) ↔ AreHonestBytes bytes

-- a record with the emission of its text counts where it begins what is left of a file
abbrev pub KeptIsWhole : Type 0
KeptIsWhole = (r : Kept) → IsEmissionOf r.bytes r.text → IsWhole r

-- each of these has the emission of its text
abbrev pub HaveEmissions : List Kept → Type 0
HaveEmissions ks = (k : Kept) → Contains ks k → IsEmissionOf k.bytes k.text

-- the last record may be cut anywhere
abbrev pub FrontsAreHonest : Type 0
FrontsAreHonest = (ks : List Kept) (bytes rest : List ℕ) → HaveEmissions ks → bytes ++ rest ≡ file_of ks
    → AreHonestBytes bytes

-- what is held after a file was cut behind the records that count, and after some records, or a part of them, were
-- written there
abbrev pub HonestFilesGrow : Type 0
HonestFilesGrow = (bytes : List ℕ) (rs ks : List Kept) (good : ℕ) → AreHonestBytes bytes → IsLoad bytes rs good
    → HaveEmissions ks → (held rest : List ℕ) → held ++ rest ≡ take good bytes ++ file_of ks → AreHonestBytes held
