-- Laws of cache files.
use Rattle.std.specs.Prelude.{◌≡◌, ◌↔◌, ℕ, ◌≤◌, List, length, take}
use Rattle.std.specs.List.{AllByRecursion}
use Rattle.mw_store.specs.Records.{Kept, file_of, IsWhole}
use Rattle.mw_store.specs.Loads.{LoadState, IsLoad, IsLoadOf, file_limit}

abbrev pub OneLoad : Type 0
OneLoad = (bytes : List ℕ) (rs ss : List Kept) (m n : ℕ) → IsLoad bytes rs m → IsLoad bytes ss n → (rs ≡ ss) × (m ≡ n)

-- whatever stands after them doesn't count, unless a whole record begins it
abbrev pub WholeFilesAreLoaded : Type 0
WholeFilesAreLoaded = (rs : List Kept) → AllByRecursion IsWhole rs → length (file_of rs) ≤ file_limit → IsLoad
    (file_of rs) rs (length (file_of rs))

abbrev pub FrontIsLoaded : Type 0
FrontIsLoaded = (bytes : List ℕ) (rs : List Kept) (good : ℕ) → IsLoad bytes rs good → IsLoad
    (take file_limit bytes) rs good

abbrev pub OnlyTheFrontIsRead : Type 0
OnlyTheFrontIsRead = (bytes : List ℕ) (load : LoadState) → IsLoadOf (take file_limit bytes) load ↔ IsLoadOf bytes load
