use Rattle.std.proofs.Common.{◌≡◌, ◌-◌, ◌^◌, []}
use Rattle.mw_wat.specs.Reading.{all_of, as_number, count}
use Rattle.mw_wat.specs.Cursors.{tokens_at}
use Rattle.mw_wat.specs.Parts.{branches}
use Rattle.mw_wat.proofs.reading.instructions.branches.Given as goal

abbrev pub invariant-loop-e : goal.invariant-loop-e
invariant-loop-e l = branches l.list l.last (all_of (as_number (2 ^ 32 - 1)) (tokens_at l.left))
    ≡ branches [] l.first (all_of (as_number (2 ^ 32 - 1)) (tokens_at l.cursor))

abbrev pub decreases-loop-e : goal.decreases-loop-e
decreases-loop-e l = count (tokens_at l.left)
