use Rattle.std.proofs.Common.{◌≡◌, drop}
use Rattle.mw_wat.specs.Lexing.{without_blanks}
use Rattle.mw_wat.proofs.reading.lexer.without_blanks.Given as goal

abbrev pub invariant-loop-n : goal.invariant-loop-n
invariant-loop-n l = without_blanks (drop l.n l.bytes) ≡ without_blanks l.bytes
