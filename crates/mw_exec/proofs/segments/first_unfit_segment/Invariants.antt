use Rattle.std.proofs.Common.{◌-◌, length}
use Rattle.mw_exec.specs.Fitting.{segment_test}
use Rattle.mw_exec.proofs.Positions.{NoneBefore}
use Rattle.mw_exec.proofs.segments.first_unfit_segment.Given as goal

abbrev pub invariant-loop-at : goal.invariant-loop-at
invariant-loop-at l = NoneBefore (segment_test l.size) l.segments l.at

abbrev pub decreases-loop-at : goal.decreases-loop-at
decreases-loop-at l = length l.segments - l.at
