use Rattle.std.proofs.Common.{◌≢◌, ◌+◌, ◌*◌, length}
use Rattle.std.specs.Prelude.{slice_index_or}
use Rattle.mw_types.specs.declared.walk.Mark.TheVariants.{New}
use Rattle.mw_types.specs.Walks.{Walk, fresh}
use Rattle.mw_types.proofs.walk.visit.Given as goal

abbrev pub invariant-loop-top : goal.invariant-loop-top
invariant-loop-top l = Walk l.state l.marks.items l.path.items × (slice_index_or l.marks.items l.start New ≢ New)

abbrev pub decreases-loop-top : goal.decreases-loop-top
decreases-loop-top l = 2 * fresh l.marks.items + length l.path.items
