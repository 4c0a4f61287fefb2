use Rattle.std.proofs.Common.{◌≡◌}
use Rattle.mw_wat.specs.Reading.{all_of, as_type, count}
use Rattle.mw_wat.specs.Cursors.{joined, tokens_at}
use Rattle.mw_wat.proofs.reading.types.all_types.Given as goal

abbrev pub invariant-loop-e : goal.invariant-loop-e
invariant-loop-e l = joined l.list (all_of as_type (tokens_at l.left))
    ≡ joined l.fn.types (all_of as_type (tokens_at l.cursor))

abbrev pub decreases-loop-e : goal.decreases-loop-e
decreases-loop-e l = count (tokens_at l.left)
