use Rattle.mw_types.specs.Satisfying.{Step, work}
use Rattle.mw_types.proofs.state.settle.Given as goal

abbrev pub invariant-loop-wait : goal.invariant-loop-wait
invariant-loop-wait l = Step l.fn.state l.state (λ a. Unit {0})

abbrev pub decreases-loop-wait : goal.decreases-loop-wait
decreases-loop-wait l = work l.state
