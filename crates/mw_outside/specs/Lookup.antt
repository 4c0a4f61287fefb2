-- Which file a name stands for.
use Rattle.std.specs.Prelude.{ℕ, List, slice_get, option_map, unwrap_or, [], ◌∷◌, Option, Some, None, Bool, IsTrue}
use Rattle.std.specs.Prelude.{IsNone, true, false, cond, bytes_eq, not, ◌&&◌, ◌||◌}
use Rattle.mw_outside.specs.declared.named.NamedFile.{NamedFile}

-- the bytes of the first file of this name
abbrev pub file_of : List NamedFile → List ℕ → Option (List ℕ)
file_of [] name = None
file_of (file ∷ files) name = cond (bytes_eq file.name name) (Some file.bytes) (file_of files name)

-- the files are told, and none of them has this name
abbrev pub LacksFile : Bool → List NamedFile → List ℕ → Type 0
LacksFile tells files name = IsTrue tells × IsNone (file_of files name)

-- the bytes of the file at a place, and none past the last
abbrev pub bytes_at : List NamedFile → ℕ → List ℕ
bytes_at files at = unwrap_or (option_map (λ (file : NamedFile). file.bytes) (slice_get files at)) []

-- a file of this name is among these
abbrev pub is_named : List NamedFile → List ℕ → Bool
is_named [] name = false
is_named (file ∷ files) name = bytes_eq file.name name || is_named files name

-- no two files have one name
abbrev pub names_differ : List NamedFile → Bool
names_differ [] = true
names_differ (file ∷ files) = not (is_named files file.name) && names_differ files
