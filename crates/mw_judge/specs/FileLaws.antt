-- Laws of files.
use Rattle.std.specs.Prelude.{◌≡◌, ◌⊎◌, ℕ, List}
use Rattle.mw_wasm.specs.Syntax.{PureModule}
use Rattle.mw_wasm.specs.Validity.{IsValid}
use Rattle.mw_leb.specs.ReadingLaws.{AreBytes}
use Rattle.mw_judge.specs.declared.fault.BadFile.{BadFile}
use Rattle.mw_judge.specs.ModuleFiles.{IsBinary, IsFileOf, IsBadBinary, IsBadFile}

-- no file is of two modules
abbrev pub FileHasOneModule : Type 0
FileHasOneModule = (bytes : List ℕ) (m n : PureModule) → IsFileOf bytes m → IsFileOf bytes n → m ≡ n

abbrev pub BinaryHasOneModule : Type 0
BinaryHasOneModule = (bytes : List ℕ) (m n : PureModule) → IsBinary bytes m → IsBinary bytes n → m ≡ n

-- none has a module and a fault
abbrev pub NeverBadAndFile : Type 0
NeverBadAndFile = (bytes : List ℕ) (m : PureModule) (f : BadFile) → IsFileOf bytes m → IsBadFile bytes f → ⊥

abbrev pub NeverBadAndBinary : Type 0
NeverBadAndBinary = (bytes : List ℕ) (m : PureModule) (f : BadFile) → IsBinary bytes m → IsBadBinary bytes f → ⊥

-- none has two faults
abbrev pub FileHasOneFault : Type 0
FileHasOneFault = (bytes : List ℕ) (f g : BadFile) → IsBadFile bytes f → IsBadFile bytes g → f ≡ g

abbrev pub BinaryHasOneFault : Type 0
BinaryHasOneFault = (bytes : List ℕ) (f g : BadFile) → IsBadBinary bytes f → IsBadBinary bytes g → f ≡ g

-- each has a module or a fault
abbrev pub FileOrBad : Type 0
FileOrBad =
    (bytes : List ℕ) → AreBytes bytes → ((m : PureModule) × IsFileOf bytes m) ⊎ ((f : BadFile) × IsBadFile bytes f)

abbrev pub BinaryOrBad : Type 0
BinaryOrBad =
    (bytes : List ℕ) → AreBytes bytes → ((m : PureModule) × IsBinary bytes m) ⊎ ((f : BadFile) × IsBadBinary bytes f)

-- a module is valid or it isn't
abbrev pub ValidityIsDecided : Type 0
ValidityIsDecided = (m : PureModule) → IsValid m ⊎ (IsValid m → ⊥)
