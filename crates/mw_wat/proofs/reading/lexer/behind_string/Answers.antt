use Rattle.mw_wat.proofs.CursorTokens.{behind_goes_on}
use Rattle.mw_wat.proofs.reading.lexer.behind_string.Goals as goal

pub loop-rest-preserved : goal.loop-rest-preserved
loop-rest-preserved c =
    behind_goes_on c.in-Byte.field-0 c.in-Byte.rest.now c.loop-rest.left.now _ c.in-Byte.ensures.piece
    c.loop-rest.invariant
