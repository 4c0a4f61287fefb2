-- What the words of the command line mean: a command, or none.
use Rattle.std.specs.Prelude.{◌≡◌, ℕ, ◌≤◌, ◌≢◌, Bool, true, false, not, List, [], ◌∷◌, ◌++◌, length, filter, codes}
use Rattle.std.specs.Prelude.{bytes_eq, Option, Some, None, option_map}
use denote.Ref.{Bor}
use Rattle.std.specs.List.{list_any}
use Rattle.std.specs.Map.{lookup}
use Rattle.std.specs.Str.Parse.{IsNumeral, digits_value}
use Rattle.mw_words.specs.declared.Command.{Command}
use Rattle.mw_words.specs.declared.Command.TheVariants.{Run, Erased, Link, Sample, Migrate, Wat, Check}
use Rattle.mw_words.specs.declared.Command.TheVariants.{Cert, Recheck}

-- a command as pure data: the run of a file by so many workers with so many units of fuel, with the
-- kernels' code simplified or as it was built, and with the path of a cache or none; the run of a file's
-- erased program with so many units; the kernels of a file linked as one module, by so many workers with so
-- many units; a source made from a number; the migration of the cache at a path; the text of the module in a
-- file; the verdict on it; the certificate of the typing of a file's source; or whether the first file
-- certifies the typing of the second file's source
pub data PureCommand : Type 0 where
  run : (workers fuel : ℕ) (simplify : Bool) (cache : Option (List ℕ)) (file : List ℕ) → PureCommand
  erased : (fuel : ℕ) (file : List ℕ) → PureCommand
  link : (workers fuel : ℕ) (file : List ℕ) → PureCommand
  sample : (number : ℕ) → PureCommand
  migrate : (cache : List ℕ) → PureCommand
  wat : (file : List ℕ) → PureCommand
  check : (file : List ℕ) → PureCommand
  cert : (file : List ℕ) → PureCommand
  recheck : (cert file : List ℕ) → PureCommand

-- the bytes of a word
abbrev pub word_in : Bor (List ℕ) → List ℕ
word_in word = word.now

abbrev pub command_in : Command → PureCommand
command_in (Run workers fuel simplify cache file) = run workers fuel simplify (option_map word_in cache) file.now
command_in (Erased fuel file) = erased fuel file.now
command_in (Link workers fuel file) = link workers fuel file.now
command_in (Sample number) = sample number
command_in (Migrate cache) = migrate cache.now
command_in (Wat file) = wat file.now
command_in (Check file) = check file.now
command_in (Cert file) = cert file.now
command_in (Recheck text file) = recheck text.now file.now

-- a word that may name a file or a cache: not empty, and not beginning with `-`
abbrev pub IsFileWord : List ℕ → Type 0
IsFileWord [] = ⊥
IsFileWord (byte ∷ bytes) = byte ≢ 45

-- a word of 1 to 9 decimal digits, whose value is n, from 1 to a limit
pub record IsNumber (most : ℕ) (word : List ℕ) (n : ℕ) : Type 0 where
  pub digits : IsNumeral 10 word
  pub few : length word ≤ 9
  pub value : digits_value 10 word ≡ n
  pub low : 1 ≤ n
  pub high : n ≤ most

-- the options' names, each with whether the option takes a value
abbrev pub options : List (List ℕ × Bool)
options = (codes "--workers", true) ∷ (codes "--fuel", true) ∷ (codes "--simplify", false)
    ∷ (codes "--cache", true) ∷ []

-- whether the option of this name takes a value, where there is one of this name
abbrev pub takes_value : List ℕ → Option Bool
takes_value name = lookup (bytes_eq name) options

-- an option of this name stands first among the words with a value, and others follow
pub data IsOption (name : List ℕ) : List (List ℕ) → List ℕ → List (List ℕ) → Type 0 where
  -- name VALUE
  apart : {word value : List ℕ} {rest : List (List ℕ)} → word ≡ name
      → IsOption name (word ∷ value ∷ rest) value rest
  -- name=VALUE
  joined : {word value : List ℕ} {rest : List (List ℕ)} → word ≡ name ++ codes "=" ++ value
      → IsOption name (word ∷ rest) value rest

-- a part of the words: an option by its name, with the word of its value if it takes one, or a file
pub data PurePart : Type 0 where
  option : (name : List ℕ) (value : Option (List ℕ)) → PurePart
  file : (name : List ℕ) → PurePart

-- the part stands first among the words, and others follow
pub data Begins : List (List ℕ) → PurePart → List (List ℕ) → Type 0 where
  valued : {words rest : List (List ℕ)} {name value : List ℕ} → takes_value name ≡ Some true
      → IsOption name words value rest → Begins words (option name (Some value)) rest
  alone : {name : List ℕ} {rest : List (List ℕ)} → takes_value name ≡ Some false
      → Begins (name ∷ rest) (option name None) rest
  filed : {word : List ℕ} {rest : List (List ℕ)} → IsFileWord word
      → Begins (word ∷ rest) (file word) rest

-- the words are these parts, one after the other
pub data AreParts : List (List ℕ) → List PurePart → Type 0 where
  no_part : AreParts [] []
  one_more : {words rest : List (List ℕ)} {part : PurePart} {parts : List PurePart}
      → Begins words part rest → AreParts rest parts → AreParts words (part ∷ parts)

-- an option of this name, or, of no name, a file
abbrev pub is_named : Option (List ℕ) → PurePart → Bool
is_named (Some name) (option own value) = bytes_eq own name
is_named None (file name) = true
is_named _ _ = false

-- the parts of this name, or of no name, in order
abbrev pub parts_named : Option (List ℕ) → List PurePart → List PurePart
parts_named name parts = filter (is_named name) parts

-- a file, or an option of one of these names
abbrev pub is_taken : List (List ℕ) → PurePart → Bool
is_taken names (option name value) = list_any (λ own. bytes_eq own name) names
is_taken names (file name) = true

-- no part is an option of another name
abbrev pub HaveOnly : List (List ℕ) → List PurePart → Type 0
HaveOnly names parts = filter (λ part. not (is_taken names part)) parts ≡ []

-- an option that is named at most once gives a number from 1 to the most, and its default where it isn't
-- named
pub data IsNumberOf (name : List ℕ) (most default : ℕ) (parts : List PurePart) : ℕ → Type 0 where
  not_named : parts_named (Some name) parts ≡ [] → IsNumberOf name most default parts default
  named_once : {word : List ℕ} {n : ℕ}
      → parts_named (Some name) parts ≡ option name (Some word) ∷ []
      → IsNumber most word n → IsNumberOf name most default parts n

-- an option without a value is on where it is named once, and off where it isn't named
pub data IsSwitchOf (name : List ℕ) (parts : List PurePart) : Bool → Type 0 where
  off : parts_named (Some name) parts ≡ [] → IsSwitchOf name parts false
  on : parts_named (Some name) parts ≡ option name None ∷ [] → IsSwitchOf name parts true

-- an option that is named at most once gives a word that may name a file, and none where it isn't named
pub data IsWordOf (name : List ℕ) (parts : List PurePart) : Option (List ℕ) → Type 0 where
  without_word : parts_named (Some name) parts ≡ [] → IsWordOf name parts None
  with_word : {word : List ℕ} → parts_named (Some name) parts ≡ option name (Some word) ∷ []
      → IsFileWord word → IsWordOf name parts (Some word)

-- the one file among the parts
abbrev pub IsFileOf : List PurePart → List ℕ → Type 0
IsFileOf parts name = parts_named None parts ≡ file name ∷ []

-- no part is a file
abbrev pub HasNoFile : List PurePart → Type 0
HasNoFile parts = parts_named None parts ≡ []

-- the workers and the units of fuel that the parts give
abbrev pub AreWorkersOf : List PurePart → ℕ → Type 0
AreWorkersOf parts n = IsNumberOf (codes "--workers") 64 4 parts n

abbrev pub AreUnitsOf : List PurePart → ℕ → Type 0
AreUnitsOf parts n = IsNumberOf (codes "--fuel") 10000000 1000000 parts n

-- behind the command's word the parts, in whatever order, make the command
pub data Makes : List ℕ → List PurePart → PureCommand → Type 0 where
  -- run [--workers N] [--fuel N] [--simplify] [--cache PATH] FILE
  run_of : {parts : List PurePart} {workers fuel : ℕ} {simplify : Bool} {cache : Option (List ℕ)}
      {name : List ℕ}
      → HaveOnly (codes "--workers" ∷ codes "--fuel" ∷ codes "--simplify" ∷ codes "--cache" ∷ []) parts
      → AreWorkersOf parts workers → AreUnitsOf parts fuel
      → IsSwitchOf (codes "--simplify") parts simplify → IsWordOf (codes "--cache") parts cache
      → IsFileOf parts name → Makes (codes "run") parts (run workers fuel simplify cache name)
  -- erased [--fuel N] FILE
  erased_of : {parts : List PurePart} {fuel : ℕ} {name : List ℕ}
      → HaveOnly (codes "--fuel" ∷ []) parts → AreUnitsOf parts fuel → IsFileOf parts name
      → Makes (codes "erased") parts (erased fuel name)
  -- link [--workers N] [--fuel N] FILE
  link_of : {parts : List PurePart} {workers fuel : ℕ} {name : List ℕ}
      → HaveOnly (codes "--workers" ∷ codes "--fuel" ∷ []) parts
      → AreWorkersOf parts workers → AreUnitsOf parts fuel → IsFileOf parts name
      → Makes (codes "link") parts (link workers fuel name)
  -- migrate --cache PATH
  migrate_of : {parts : List PurePart} {cache : List ℕ}
      → HaveOnly (codes "--cache" ∷ []) parts → IsWordOf (codes "--cache") parts (Some cache)
      → HasNoFile parts → Makes (codes "migrate") parts (migrate cache)

-- the words mean the command
pub data Means : List (List ℕ) → PureCommand → Type 0 where
  -- a command with options: its word, and then its parts
  parts_command : {word : List ℕ} {words : List (List ℕ)} {parts : List PurePart}
      {command : PureCommand} → AreParts words parts → Makes word parts command → Means (word ∷ words) command
  -- sample N
  sample_command : {word : List ℕ} {n : ℕ} → IsNumber 100 word n
      → Means (codes "sample" ∷ word ∷ []) (sample n)
  -- wat FILE
  wat_command : {word : List ℕ} → IsFileWord word → Means (codes "wat" ∷ word ∷ []) (wat word)
  -- check FILE
  check_command : {word : List ℕ} → IsFileWord word → Means (codes "check" ∷ word ∷ []) (check word)
  -- cert FILE
  cert_command : {word : List ℕ} → IsFileWord word → Means (codes "cert" ∷ word ∷ []) (cert word)
  -- recheck CERT FILE
  recheck_command : {first second : List ℕ} → IsFileWord first → IsFileWord second
      → Means (codes "recheck" ∷ first ∷ second ∷ []) (recheck first second)

-- the words mean no command
abbrev pub IsUsage : List (List ℕ) → Type 0
IsUsage words = (c : PureCommand) → Means words c → ⊥
