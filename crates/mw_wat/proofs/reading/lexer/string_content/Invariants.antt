use Rattle.std.proofs.Common.{◌≡◌, length}
use Rattle.mw_wat.specs.Lexing.{quotes}
use Rattle.mw_wat.specs.Cursors.{content}
use Rattle.mw_wat.proofs.CursorTokens.{content_with}
use Rattle.mw_wat.proofs.reading.lexer.string_content.Given as goal

abbrev pub invariant-loop-list : goal.invariant-loop-list
invariant-loop-list l = content_with l.list (quotes l.left) ≡ content (quotes l.inside)

abbrev pub decreases-loop-list : goal.decreases-loop-list
decreases-loop-list l = length l.left
