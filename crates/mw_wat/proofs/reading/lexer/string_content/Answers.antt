use Rattle.mw_wat.proofs.CursorTokens.{content_goes_on}
use Rattle.mw_wat.proofs.reading.lexer.string_content.Goals as goal

pub loop-list-preserved : goal.loop-list-preserved
loop-list-preserved c =
    rw c.in_ok-push-in-Byte.ensures.ok
    (content_goes_on c.loop-list.list c.in-Byte.byte c.in-Byte.rest.now c.loop-list.left.now _ c.in-Byte.ensures.piece
    c.loop-list.invariant)
