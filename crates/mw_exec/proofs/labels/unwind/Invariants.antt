use Rattle.mw_exec.specs.Turns.{Unwound}
use Rattle.mw_exec.proofs.labels.unwind.Given as goal

abbrev pub invariant-loop-left : goal.invariant-loop-left
invariant-loop-left l = Unwound l.label l.left l.initial.state l.state

abbrev pub decreases-loop-left : goal.decreases-loop-left
decreases-loop-left l = l.left
