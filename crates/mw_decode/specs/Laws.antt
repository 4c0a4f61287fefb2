-- Reading code and the grammar of code.
use Rattle.std.specs.Prelude.{◌≡◌, ℕ, List, ◌++◌, Ok}
use Rattle.mw_wasm.specs.Syntax.{Code, PureModule}
use Rattle.mw_wasm.specs.BinaryInstructions.{SpellsExpression}
use Rattle.mw_wasm.specs.Profile.{IsShallow, IsWithinFileLimit, IsWithinProfile}
use Rattle.mw_wasm.specs.BinaryModules.{Spells}
use Rattle.mw_leb.specs.ReadingLaws.{AreBytes, Begins}
use Rattle.mw_encode.specs.Encoding.{encoding}
use Rattle.mw_decode.specs.Reading.{got}
use Rattle.mw_decode.specs.Instructions.{expression}
use Rattle.mw_decode.specs.Sections.{module_in, module_read}

-- what is read is spelled so by the bytes that were taken, and blocks stand at most 500 deep in it
abbrev pub ReadCodeIsSpelled : Type 0
ReadCodeIsSpelled =
    (end : ℕ) (bytes rest : List ℕ) (c : Code) → expression end bytes ≡ got c rest
    → Begins (λ front. SpellsExpression front c × IsShallow c) bytes rest

-- what is spelled so is read, whatever stands behind it
abbrev pub SpelledCodeIsRead : Type 0
SpelledCodeIsRead =
    (end : ℕ) (front rest : List ℕ) (c : Code) → SpellsExpression front c → IsShallow c
    → expression end (front ++ rest) ≡ got c rest

-- a module that bytes spell within the profile is read, however many bytes they are
abbrev pub SpelledModuleIsRead : Type 0
SpelledModuleIsRead = (bytes : List ℕ) (m : PureModule) → Spells bytes m → IsWithinProfile m → module_in bytes ≡ Ok m

-- a module that is read is spelled by all of the bytes, and is within the profile
abbrev pub ReadModuleIsSpelled : Type 0
ReadModuleIsSpelled =
    (bytes : List ℕ) (m : PureModule) → AreBytes bytes → module_in bytes ≡ Ok m → Spells bytes m × IsWithinProfile m

-- of a file, its limit beside
abbrev pub SpelledFileIsRead : Type 0
SpelledFileIsRead =
    (bytes : List ℕ) (m : PureModule) → IsWithinFileLimit bytes → Spells bytes m → IsWithinProfile m
    → module_read bytes ≡ Ok m

abbrev pub ReadFileIsSpelled : Type 0
ReadFileIsSpelled =
    (bytes : List ℕ) (m : PureModule) → AreBytes bytes → module_read bytes ≡ Ok m
    → IsWithinFileLimit bytes × Spells bytes m × IsWithinProfile m

-- what is encoded is decoded to the same module, where any bytes spell it, it is within the profile,
-- and its encoding is within the limit
abbrev pub EncodingIsRead : Type 0
EncodingIsRead =
    (m : PureModule) (bytes : List ℕ) → Spells bytes m → IsWithinProfile m → IsWithinFileLimit (encoding m)
    → module_read (encoding m) ≡ Ok m
