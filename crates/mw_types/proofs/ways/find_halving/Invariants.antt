use Rattle.mw_types.specs.Shorter.{Shorter}
use Rattle.mw_types.proofs.ways.find_halving.Given as goal

abbrev pub invariant-loop-at : goal.invariant-loop-at
invariant-loop-at l = Shorter l.fn.parent.items l.parent.items l.from l.at

abbrev pub decreases-loop-at : goal.decreases-loop-at
decreases-loop-at l = l.at
