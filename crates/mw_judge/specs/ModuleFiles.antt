-- Files of modules, and the faults of those that are none.
use Rattle.std.specs.Prelude.{◌≡◌, ℕ, zero, Bool, true, false, List, ◌∷◌, Err}
use Rattle.mw_wasm.specs.Syntax.{PureModule}
use Rattle.mw_wasm.specs.BinaryModules.{Spells}
use Rattle.mw_wasm.specs.Profile.{IsWithinFileLimit, IsWithinProfile}
use Rattle.mw_wasm.specs.Validity.{IsValid}
use Rattle.mw_decode.specs.Sections.{module_read}
use Rattle.mw_wat.specs.ModuleTexts.{IsTextOf, IsFirstBadPlace}
use Rattle.mw_judge.specs.declared.fault.BadFile.{BadFile}
use Rattle.mw_judge.specs.declared.fault.BadFile.TheVariants.{Module, Text}

-- the bytes are a binary module: within the limit they spell it, within the profile
pub record IsBinary (bytes : List ℕ) (m : PureModule) : Type 0 where
  pub limit : IsWithinFileLimit bytes
  pub spelled : Spells bytes m
  pub profile : IsWithinProfile m

-- the bytes are a text of the module, within the limit
pub record IsText (bytes : List ℕ) (m : PureModule) : Type 0 where
  pub limit : IsWithinFileLimit bytes
  pub text : IsTextOf bytes m

-- the first fault of bytes as a binary module
abbrev pub IsBadBinary : List ℕ → BadFile → Type 0
IsBadBinary bytes (Module f) = module_read bytes ≡ Err f
IsBadBinary bytes (Text at) = ⊥

-- and as a text
abbrev pub IsBadText : List ℕ → BadFile → Type 0
IsBadText bytes (Module f) = ⊥
IsBadText bytes (Text at) = IsFirstBadPlace bytes at

-- a file that begins with 00 is read as a binary module, and any other one, an empty one too, as a text
abbrev pub begins_binary : List ℕ → Bool
begins_binary (zero ∷ bytes) = true
begins_binary _ = false

abbrev pub IsFileOf : List ℕ → PureModule → Type 0
IsFileOf (zero ∷ bytes) m = IsBinary (0 ∷ bytes) m
IsFileOf bytes m = IsText bytes m

abbrev pub IsBadFile : List ℕ → BadFile → Type 0
IsBadFile (zero ∷ bytes) f = IsBadBinary (0 ∷ bytes) f
IsBadFile bytes f = IsBadText bytes f

-- whether the module is valid
abbrev pub Judges : Bool → PureModule → Type 0
Judges true m = IsValid m
Judges false m = IsValid m → ⊥
