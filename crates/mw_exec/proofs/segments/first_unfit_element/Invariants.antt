use Rattle.std.proofs.Common.{◌-◌, length}
use Rattle.mw_exec.specs.Fitting.{element_test}
use Rattle.mw_exec.proofs.Positions.{NoneBefore}
use Rattle.mw_exec.proofs.segments.first_unfit_element.Given as goal

abbrev pub invariant-loop-at : goal.invariant-loop-at
invariant-loop-at l = NoneBefore (element_test l.size) l.elements l.at

abbrev pub decreases-loop-at : goal.decreases-loop-at
decreases-loop-at l = length l.elements - l.at
