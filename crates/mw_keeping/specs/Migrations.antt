-- Cache files whose texts of version One have records of version Two added for them.
use Rattle.std.specs.Prelude.{◌≡◌, ℕ, ◌-◌, List, ◌++◌, length, map, take}
use Rattle.mw_store.specs.Records.{Kept, record_bytes, file_of}
use Rattle.mw_store.specs.Loads.{LoadState, IsLoadOf, file_limit}
use Rattle.mw_cache.specs.Migrating.{Migrate}
use Rattle.mw_keeping.specs.CacheFiles.{IsReadFile}
use Rattle.mw_keeping.specs.KeptFiles.{fitting}
use Rattle.mw_keeping.specs.declared.migrating.FileMigration.{FileMigration}

-- A migration of a file that holds these bytes: so many loaded texts are of version One, and these records are added
-- for them, those of all that have room.
pub record IsMigration (held : List ℕ) (old : ℕ) (added : List Kept) : Type 0 where
  pub load : LoadState
  pub is_load : IsLoadOf held load
  pub records : List Kept
  pub are : Migrate load load.records old records
  pub fit : added ≡ fitting (file_limit - load.good) records

-- What a file that held these bytes has after a migration: what counted of it, and then exactly the records that are
-- added.
pub record IsMigratedFile (held after : List ℕ) : Type 0 where
  pub old : ℕ
  pub added : List Kept
  pub is : IsMigration held old added
  pub file : after ≡ take is.load.good held ++ file_of added

-- This was found of a file that holds these bytes: what was read and loaded of it, how many of its texts are of version
-- One, the records for them, and how many of these have room.
pub record IsMigrationHere (held : List ℕ) (m : FileMigration) : Type 0 where
  pub read : IsReadFile held m.count m.load
  pub records : List Kept
  pub are : Migrate m.load m.load.records m.old records
  pub bytes : m.records ≡ map record_bytes records
  pub added : m.added ≡ length (fitting (file_limit - m.load.good) records)
