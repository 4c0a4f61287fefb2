use Rattle.mw_wat.specs.Reading.{count}
use Rattle.mw_wat.specs.Modules.{fields}
use Rattle.mw_wat.specs.Cursors.{tokens_at}
use Rattle.mw_wat.proofs.FieldLoops.{FieldsLeft}
use Rattle.mw_wat.proofs.reading.fields.fields.Given as goal

abbrev pub invariant-loop-going : goal.invariant-loop-going
invariant-loop-going g l = FieldsLeft g.T.TextField.seen l.word g.T.TextField.reader l.list l.going (tokens_at l.left)
    (fields l.word g.T.TextField.reader l.opened (tokens_at l.cursor))

abbrev pub decreases-loop-going : goal.decreases-loop-going
decreases-loop-going g l = count (tokens_at l.left)
