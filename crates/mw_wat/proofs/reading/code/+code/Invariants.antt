use Rattle.std.proofs.Common.{◌≡◌, ◌+◌, ◌*◌}
use Rattle.mw_wat.specs.Reading.{count}
use Rattle.mw_wat.specs.Instructions.{instructions}
use Rattle.mw_wat.specs.Cursors.{tokens_at}
use Rattle.mw_wat.specs.Steps.{place_of, with_front}
use Rattle.mw_wat.proofs.reading.code.+code.Given as goal

abbrev pub decreases-listed : goal.decreases-listed
decreases-listed l = 4 * l.room + 1

abbrev pub decreases-next_step : goal.decreases-next_step
decreases-next_step l = 4 * l.room

abbrev pub decreases-opened : goal.decreases-opened
decreases-opened l = 4 * l.room + 3

abbrev pub decreases-inside : goal.decreases-inside
decreases-inside l = 4 * l.room + 2

abbrev pub invariant-listed-loop-e : goal.invariant-listed-loop-e
invariant-listed-loop-e l = with_front l.list.inner.items (instructions l.room (place_of l.now) (tokens_at l.left))
    ≡ instructions l.room (place_of l.fn.place) (tokens_at l.cursor)

abbrev pub decreases-listed-loop-e : goal.decreases-listed-loop-e
decreases-listed-loop-e l = count (tokens_at l.left)
