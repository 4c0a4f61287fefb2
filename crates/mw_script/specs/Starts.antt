-- Where the machine can start, and what it ended with.
use Rattle.std.specs.Prelude.{ℕ, ◌≡◌, false, List, Result, Ok}
use Rattle.mw_term.specs.Terms.{Expression, close, bracket}
use Rattle.mw_term.specs.Closed.{IsCode}
use Rattle.mw_term.specs.Programs.{Definition, value as defines, kernel, PureProgram}
use Rattle.mw_meaning.specs.StagedMeaning.{Runs}
use Rattle.mw_machine.specs.declared.kernels.KernelFault.{KernelFault}
use Rattle.mw_machine.specs.declared.machine.Machine.{Machine}
use Rattle.mw_machine.specs.declared.outcome.Outcome.{Outcome}
use Rattle.mw_machine.specs.declared.outcome.Outcome.TheVariants as o
use Rattle.mw_machine.specs.Starting.{AreBuilt}
use Rattle.mw_machine.specs.TurnAnswers.{EndedWithCode, IsReady}

-- a bracket of the code
abbrev pub IsBracketOf : Expression → Expression → Type 0
IsBracketOf e c = (e ≡ bracket c) × IsCode c

-- a kernel's definition is `close` of a bracket of its code
abbrev pub IsBuilt : Definition → Type 0
IsBuilt (defines e) = Unit {0}
IsBuilt (kernel k e) = (at : ℕ) × (c : Expression) × (e ≡ close at (bracket c)) × IsCode c

-- likewise each of them
abbrev pub AreAllBuilt : List Definition → Type 0
AreAllBuilt ds = (codes : List Expression) × AreBuilt ds codes

-- the machine may turn over any kernels that have not stopped
abbrev pub IsStarted : PureProgram → Machine → Type 0
IsStarted p m = (functions : Runs) → IsReady p functions false m

-- where it ended with code, the machine has this
abbrev pub HasItsCode : Machine → Result Outcome KernelFault → Type 0
HasItsCode m (Ok (o.Code id)) = EndedWithCode m id
HasItsCode m _ = Unit {0}
