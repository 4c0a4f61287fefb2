-- What is answered about a file, unless memory ran out.
use Rattle.std.specs.Prelude.{Result, Ok, Err}
use Rattle.mw_decode.specs.declared.fault.DecodeFault.{DecodeFault}
use Rattle.mw_decode.specs.declared.fault.DecodeFault.TheVariants as decoding
use Rattle.mw_wat.specs.declared.fault.WatFault.{WatFault}
use Rattle.mw_wat.specs.declared.fault.WatFault.TheVariants as reading
use Rattle.mw_judge.specs.declared.fault.BadFile.{BadFile}
use Rattle.mw_judge.specs.declared.fault.BadFile.TheVariants.{Module, Text}
use Rattle.mw_judge.specs.declared.fault.FileFault.{FileFault}
use Rattle.mw_judge.specs.declared.fault.FileFault.TheVariants.{Bad, Memory}

-- a fault of the bytes is one of these
abbrev pub IfBad : (BadFile → Type 0) → FileFault → Type 0
IfBad P (Bad f) = P f
IfBad P (Memory e) = Unit {0}

-- the answer is one of these, and no fault of the bytes
abbrev pub UnlessMemory : {A : Type 0} → (A → Type 0) → Result A FileFault → Type 0
UnlessMemory P (Ok x) = P x
UnlessMemory P (Err (Bad f)) = ⊥
UnlessMemory P (Err (Memory e)) = Unit {0}

-- faults of the two readers, as faults of files
abbrev pub of_decoding : DecodeFault → FileFault
of_decoding (decoding.Bad f) = Bad (Module f)
of_decoding (decoding.Memory e) = Memory e

abbrev pub of_reading : WatFault → FileFault
of_reading (reading.Bad at) = Bad (Text at)
of_reading (reading.Memory e) = Memory e
