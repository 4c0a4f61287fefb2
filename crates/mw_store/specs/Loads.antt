-- What is loaded from a cache file.
use Rattle.std.specs.Prelude.{◌≡◌, ℕ, ◌+◌, ◌<◌, ◌≤◌, List, [], ◌∷◌, ◌++◌, length, map, fold, Bool, if◌then◌else◌}
use Rattle.std.specs.List.{list_any}
use Rattle.std.specs.Str.{bytes_eq}
use Rattle.mw_wasm.specs.Profile.{IsWithinFileLimit}
use Rattle.mw_store.specs.Records.{Kept, record_bytes, file_of, IsWhole}

-- a cache file has at most so many bytes
abbrev pub file_limit : ℕ
file_limit = 67108864

-- a whole record begins these bytes
abbrev pub Begins : List ℕ → Kept → Type 0
Begins bytes r = IsWhole r × ((rest : List ℕ) × (bytes ≡ record_bytes r ++ rest))

-- The records that count, where so many bytes lie before: up to the first that isn't whole, or that ends past the
-- limit.
abbrev pub Counts : ℕ → List ℕ → List Kept → Type 0
Counts past bytes [] = (r : Kept) → Begins bytes r → file_limit < past + length (record_bytes r)
Counts past bytes (r ∷ rs) =
    IsWhole r × (past + length (record_bytes r) ≤ file_limit)
    × ((rest : List ℕ) × (bytes ≡ record_bytes r ++ rest) × Counts (past + length (record_bytes r)) rest rs)

-- the records of a file that count, and the length that they take
pub record IsLoad (bytes : List ℕ) (rs : List Kept) (good : ℕ) : Type 0 where
  pub counts : Counts 0 bytes rs
  pub good_is : good ≡ length (file_of rs)

abbrev pub is_among : List ℕ → List Kept → Bool
is_among text rs = list_any (λ r. bytes_eq text r.text) rs

-- one record more, unless its text is there
abbrev pub with_record : List Kept → Kept → List Kept
with_record rs r = if is_among r.text rs then rs else rs ++ r ∷ []

-- the first record of each text, in file order
abbrev pub firsts : List Kept → List Kept
firsts rs = fold with_record [] rs

-- a record that was loaded
pub record Loaded : Type 0 where
  pub text : List ℕ
  pub bytes : List ℕ

abbrev pub kept_of : Loaded → Kept
kept_of l = record { text = l.text; bytes = l.bytes }

-- The text is that of some code at some type, and the bytes spell a module for this type. They can be decoded again,
-- since they aren't longer than what is decoded.
pub record IsLoaded (l : Loaded) : Type 0 where
  pub whole : IsWhole (kept_of l)
  pub within : IsWithinFileLimit l.bytes

-- what contracts see of a load: the first record of each text, in file order, and the length of the records that count
pub record LoadState : Type 0 where
  pub records : List Loaded
  pub good : ℕ

-- what is loaded from these bytes
abbrev pub IsLoadOf : List ℕ → LoadState → Type 0
IsLoadOf bytes load = (rs : List Kept) × IsLoad bytes rs load.good × (map kept_of load.records ≡ firsts rs)
