-- What reading a text answers, unless memory ran out.
use Rattle.std.specs.Prelude.{◌≡◌, ℕ, nat_le, if◌then◌else◌, List, Result, Ok, Err}
use Rattle.mw_wasm.specs.declared.modules.Module.{Module}
use Rattle.mw_wasm.specs.Syntax.{PureModule}
use Rattle.mw_wasm.specs.Views.{module_of}
use Rattle.mw_wat.specs.declared.fault.WatFault.{WatFault}
use Rattle.mw_wat.specs.declared.fault.WatFault.TheVariants.{Bad, Memory}
use Rattle.mw_wat.specs.ModuleTexts.{IsFirstBadPlace}

abbrev pub Answers : Result Module WatFault → Result PureModule ℕ → Type 0
Answers (Ok m) answer = answer ≡ Ok (module_of m)
Answers (Err (Bad at)) answer = answer ≡ Err at
Answers (Err (Memory e)) answer = Unit {0}

-- a fault of the bytes stands at their first bad place
abbrev pub IsFaultOf : List ℕ → WatFault → Type 0
IsFaultOf bytes (Bad at) = IsFirstBadPlace bytes at
IsFaultOf bytes (Memory e) = Unit {0}

-- the fault at a place, or at the limit where the place lies behind it
abbrev pub fault_at : ℕ → WatFault
fault_at at = if nat_le at 67_108_864 then Bad at else Bad 67_108_864
