-- The lines about a file.
use Rattle.std.specs.Prelude.{ℕ, Bool, true, false, List, ◌++◌, codes}
use Rattle.std.specs.Fmt.{decimal}
use Rattle.mw_decode.specs.declared.fault.BadModule.TheVariants as bad
use Rattle.mw_judge.specs.declared.fault.BadFile.{BadFile}
use Rattle.mw_judge.specs.declared.fault.BadFile.TheVariants.{Module, Text}

-- a fault's words and its place
abbrev pub place_line : List ℕ → ℕ → List ℕ
place_line words at = words ++ (codes " at " ++ decimal at ++ codes "\n")

-- the line of a fault
abbrev pub bad_file_line : BadFile → List ℕ
bad_file_line (Module bad.Magic) = codes "bad magic\n"
bad_file_line (Module (bad.Section at)) = place_line (codes "bad section") at
bad_file_line (Module (bad.Size at)) = place_line (codes "bad size") at
bad_file_line (Module (bad.Number at)) = place_line (codes "bad number") at
bad_file_line (Module (bad.Opcode at)) = place_line (codes "bad opcode") at
bad_file_line (Module (bad.OutsideProfile at)) = place_line (codes "outside profile") at
bad_file_line (Module (bad.Short at)) = place_line (codes "short") at
bad_file_line (Text at) = place_line (codes "bad text") at

-- and of a verdict
abbrev pub verdict_line : Bool → List ℕ
verdict_line true = codes "valid\n"
verdict_line false = codes "invalid\n"
