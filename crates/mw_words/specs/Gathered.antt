-- Parts as pure data, and how a word of an option is read.
use Rattle.std.specs.Prelude.{◌≡◌, ◌≢◌, ◌<◌, ℕ, List, ◌∷◌, ◌++◌, length, get_or, Bool, true, false}
use Rattle.std.specs.Prelude.{Option, Some, None, option_map}
use Rattle.mw_words.specs.declared.part.Part.{Part}
use Rattle.mw_words.specs.declared.part.Part.TheVariants.{Named, File}
use Rattle.mw_words.specs.Words.{PurePart, option, file, takes_value, word_in}

abbrev pub part_in : Part → PurePart
part_in (Named name value) = option name.now (option_map word_in value)
part_in (File name) = file name.now

-- no byte is `=`
abbrev pub HasNoEqual : List ℕ → Type 0
HasNoEqual bytes = (i : ℕ) → i < length bytes → get_or bytes i 0 ≢ 61

-- a word without `=` is a name, and else what stands before the first one is
abbrev pub IsSplit : List ℕ → List ℕ → Option (List ℕ) → Type 0
IsSplit word name None = (word ≡ name) × HasNoEqual name
IsSplit word name (Some value) = (word ≡ name ++ 61 ∷ value) × HasNoEqual name

-- the option of a kind, with the value that was joined to its name or is the next word, and the words
-- after it
abbrev pub option_of_kind : Option Bool → List ℕ → Option (List ℕ) → List (List ℕ)
    → Option (PurePart × List (List ℕ))
option_of_kind (Some true) name (Some value) rest = Some (option name (Some value), rest)
option_of_kind (Some true) name None (value ∷ rest) = Some (option name (Some value), rest)
option_of_kind (Some false) name None rest = Some (option name None, rest)
option_of_kind _ name joined rest = None

-- the same, of a name
abbrev pub option_part : List ℕ → Option (List ℕ) → List (List ℕ)
    → Option (PurePart × List (List ℕ))
option_part name joined rest = option_of_kind (takes_value name) name joined rest
