use Rattle.std.proofs.Common.{◌≡◌}
use Rattle.mw_types.specs.Satisfying.{Step}
use Rattle.mw_types.proofs.state.flatten.Given as goal

abbrev pub invariant-loop-node : goal.invariant-loop-node
invariant-loop-node l = Step l.fn.state l.state (λ a. Unit {0}) × (l.state.waiting ≡ l.fn.state.waiting)
