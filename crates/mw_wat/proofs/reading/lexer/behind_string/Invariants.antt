use Rattle.std.proofs.Common.{◌≡◌, length}
use Rattle.mw_wat.specs.Lexing.{quotes}
use Rattle.mw_wat.specs.Cursors.{behind}
use Rattle.mw_wat.proofs.reading.lexer.behind_string.Given as goal

abbrev pub invariant-loop-rest : goal.invariant-loop-rest
invariant-loop-rest l = behind (quotes l.left) ≡ behind (quotes l.inside)

abbrev pub decreases-loop-rest : goal.decreases-loop-rest
decreases-loop-rest l = length l.left
