use Rattle.mw_types.specs.Solutions.{Solution}
use Rattle.mw_infer.specs.Known.{Knows}
use Rattle.mw_infer.proofs.known.nothing_known.Given as goal

abbrev pub invariant-loop-tree : goal.invariant-loop-tree
invariant-loop-tree l = (s : Solution) → Knows s l.known.items
