-- Reading the source's file.
use Rattle.std.specs.Prelude.{◌≡◌, ℕ, List, Option, Some, None, take, drop}

-- the bytes are the first of the file that there is, so many at most
abbrev pub IsFront : ℕ → Option (List ℕ) → List ℕ → Type 0
IsFront most None bytes = ⊥
IsFront most (Some file) bytes = bytes ≡ take most file

-- what is left is the file that there is without so many of its first bytes
abbrev pub IsRest : ℕ → Option (List ℕ) → List ℕ → Type 0
IsRest most None left = ⊥
IsRest most (Some file) left = left ≡ drop most file
