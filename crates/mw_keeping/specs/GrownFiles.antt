-- Cache files that grew by records with the emissions of their texts, or by a part of these.
use Rattle.std.specs.Prelude.{◌≡◌, ◌⊎◌, ℕ, List, ◌++◌, take}
use Rattle.mw_store.specs.Records.{Kept, file_of}
use Rattle.mw_store.specs.Loads.{LoadState, IsLoadOf}
use Rattle.mw_cache.specs.HonestFiles.{AreHonestBytes}
use Rattle.mw_cache.specs.HonestLaws.{HaveEmissions}

-- What counted of a file that held these bytes stands, and behind it are records with the emissions of their texts, of
-- which the last may be cut.
pub record IsGrownBy (load : LoadState) (held after : List ℕ) : Type 0 where
  pub records : List Kept
  pub right : HaveEmissions records
  pub part : List ℕ
  pub rest : List ℕ
  pub front : part ++ rest ≡ file_of records
  pub is : after ≡ take load.good held ++ part

-- nothing was changed, or what counted stands and has only such records behind it
abbrev pub IsGrown : (held after : List ℕ) → Type 0
IsGrown held after = (after ≡ held) ⊎ ((load : LoadState) → IsLoadOf held load → IsGrownBy load held after)

-- What is new is right, whatever the file held; and an honest file is honest still.
pub record GrowsRight (held after : List ℕ) : Type 0 where
  pub grown : IsGrown held after
  pub honest : AreHonestBytes held → AreHonestBytes after

-- a front of the bytes of these records was added to a file that held these bytes
pub record HasPartOf (ks : List Kept) (held after : List ℕ) : Type 0 where
  pub part : List ℕ
  pub rest : List ℕ
  pub front : part ++ rest ≡ file_of ks
  pub is : after ≡ held ++ part
