-- How the machine's evaluations end.
use Rattle.std.specs.Prelude.{◌≡◌, Result, Ok, Err}
use Rattle.mw_term.specs.Terms.{Expression, Value}
use Rattle.mw_term.specs.Limits.{within_limits}
use Rattle.mw_term.specs.declared.term.Term.{Term}
use Rattle.mw_term.specs.declared.value.Limit.TheVariants.{KernelSize}
use Rattle.mw_code.specs.declared.fault.CodeFault.{CodeFault}
use Rattle.mw_code.specs.declared.fault.CodeFault.TheVariants as code
use Rattle.mw_meaning.specs.StagedMeaning.{Answer, Runs}
use Rattle.mw_meaning.specs.Outcomes.{measured_code}
use Rattle.mw_machine.specs.declared.kernels.KernelFault.{KernelFault}
use Rattle.mw_machine.specs.declared.kernels.KernelFault.TheVariants as fault
use Rattle.mw_machine.specs.TurnAnswers.{IsOutcome}
use Rattle.mw_tasks.specs.declared.evaluation.Ended.{Ended}
use Rattle.mw_tasks.specs.declared.outcome.Evaluated.{Evaluated}
use Rattle.mw_tasks.specs.declared.outcome.Evaluated.TheVariants as outcome
use Rattle.mw_tasks.specs.TaskOutcomes.{IsItemAnswer}

-- the evaluation ended as the answer says; want of memory says nothing, and a bad answer never comes
abbrev pub IsEvaluation : Result Ended KernelFault → Answer Runs Value → Type 0
IsEvaluation (Ok ended) a = IsOutcome ended.outcome ended.machine a
IsEvaluation (Err (fault.Memory e)) a = Unit {0}
IsEvaluation (Err (fault.Bad d)) a = ⊥

-- the outcome is the code, where it is within the limits
abbrev pub IsMeasured : Evaluated → Expression → Type 0
IsMeasured outcome c = IsItemAnswer outcome (measured_code (within_limits c) c)

-- Code that was read back is itself the outcome, and code that is too large or too deep is the bound; want of memory
-- stays that.
abbrev pub IsMeasurementOf : {E : Type 0} → Result Term CodeFault → Result Evaluated E → Type 0
IsMeasurementOf (Ok t) (Ok (outcome.Code u)) = u ≡ t
IsMeasurementOf (Err code.TooManyNodes) (Ok (outcome.Bound l)) = l ≡ KernelSize
IsMeasurementOf (Err code.TooDeepCode) (Ok (outcome.Bound l)) = l ≡ KernelSize
IsMeasurementOf (Err (code.Memory e)) (Err f) = Unit {0}
IsMeasurementOf _ _ = ⊥
