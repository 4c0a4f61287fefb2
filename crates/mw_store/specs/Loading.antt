-- What is loaded while a file is read.
use Rattle.std.specs.Prelude.{◌≡◌, ℕ, ◌+◌, ◌<◌, ◌≤◌, List, ◌++◌, length, map, drop}
use Rattle.std.specs.List.{AllByRecursion}
use Rattle.mw_store.specs.Records.{Kept, record_bytes, file_of, IsWhole}
use Rattle.mw_store.specs.Loads.{Begins, LoadState, kept_of, with_record, firsts, file_limit}
use Rattle.mw_store.specs.Whole.{kept_in}
use Rattle.mw_store.specs.declared.whole.WholeRecord.{WholeRecord}

-- the load is of whole records that begin the bytes
pub record IsLoadedTo (bytes : List ℕ) (load : LoadState) : Type 0 where
  pub taken : List Kept
  pub whole : AllByRecursion IsWhole taken
  pub rest : List ℕ
  pub begins : bytes ≡ file_of taken ++ rest
  pub good_is : load.good ≡ length (file_of taken)
  pub within : load.good ≤ file_limit
  pub firsts_are : map kept_of load.records ≡ firsts taken

-- after so many bytes no whole record ends within the limit
abbrev pub NoneBegins : List ℕ → ℕ → Type 0
NoneBegins bytes good = (r : Kept) → Begins (drop good bytes) r → file_limit < good + length (record_bytes r)

-- a record that may be counted after so many bytes
pub record LoadsUpTo (f : WholeRecord) (good : ℕ) : Type 0 where
  pub whole : IsWhole (kept_in f)
  pub within : good + length (record_bytes (kept_in f)) ≤ file_limit

-- a record more was counted
pub record TakesFound (r : Kept) (old new : LoadState) : Type 0 where
  pub good_is : new.good ≡ old.good + length (record_bytes r)
  pub records_are : map kept_of new.records ≡ with_record (map kept_of old.records) r
