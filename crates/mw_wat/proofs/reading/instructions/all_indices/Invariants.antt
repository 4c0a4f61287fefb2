use Rattle.std.proofs.Common.{◌≡◌}
use Rattle.mw_wat.specs.Reading.{all_of, count}
use Rattle.mw_wat.specs.Modules.{as_limit}
use Rattle.mw_wat.specs.Cursors.{joined, tokens_at}
use Rattle.mw_wat.proofs.reading.instructions.all_indices.Given as goal

abbrev pub invariant-loop-e : goal.invariant-loop-e
invariant-loop-e l = joined l.list (all_of as_limit (tokens_at l.left)) ≡ all_of as_limit (tokens_at l.cursor)

abbrev pub decreases-loop-e : goal.decreases-loop-e
decreases-loop-e l = count (tokens_at l.left)
