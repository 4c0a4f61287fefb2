use Rattle.mw_wat.proofs.CursorTokens.{no_string_here}
use Rattle.mw_wat.proofs.reading.lexer.front.Goals as goal

pub returns-in-None-clause-none : goal.returns-in-None-clause-none
returns-in-None-clause-none c =
    no_string_here c.args.bytes.now c.in-len1-up.len_at_least c.if-byte-eq34.true c.in-None.ensures.none
