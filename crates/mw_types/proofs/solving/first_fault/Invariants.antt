use Rattle.std.proofs.Common.{◌≤◌, ◌-◌, length}
use Rattle.mw_types.specs.Equations.{equations_of}
use Rattle.mw_types.specs.Judged.{Halved, StatesFront}
use Rattle.mw_types.proofs.solving.first_fault.Given as goal

abbrev pub invariant-loop-high : goal.invariant-loop-high
invariant-loop-high l = Halved l.unknowns (equations_of l.equations) l.low l.high.end l.high.verdict
    × (l.high.end ≤ length l.equations) × (l.low ≤ l.high.end)
    × StatesFront l.unknowns l.classifiers l.equations l.low l.state

abbrev pub decreases-loop-high : goal.decreases-loop-high
decreases-loop-high l = l.high.end - l.low
