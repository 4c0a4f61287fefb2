use Rattle.std.proofs.Common.{◌≤◌}
use Rattle.mw_types.specs.Forest.{Leads}
use Rattle.mw_types.proofs.state.find.Given as goal

abbrev pub invariant-loop-at : goal.invariant-loop-at
invariant-loop-at l = Leads l.parent l.from l.at × (l.at ≤ l.from)

abbrev pub decreases-loop-at : goal.decreases-loop-at
decreases-loop-at l = l.at
