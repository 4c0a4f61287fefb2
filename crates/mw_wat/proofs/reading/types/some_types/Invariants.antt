use Rattle.std.proofs.Common.{◌≡◌, ◌-◌}
use Rattle.mw_wat.specs.Reading.{some_of, as_type}
use Rattle.mw_wat.specs.Cursors.{joined, tokens_at}
use Rattle.mw_wat.proofs.reading.types.some_types.Given as goal

abbrev pub invariant-loop-n : goal.invariant-loop-n
invariant-loop-n l = joined l.list (some_of (l.most - l.n) as_type (tokens_at l.left))
    ≡ joined l.fn.types (some_of l.most as_type (tokens_at l.cursor))
