use Rattle.std.proofs.Common.{◌≡◌, drop, take}
use Rattle.mw_wat.specs.Lexing.{whole_word}
use Rattle.mw_wat.proofs.CursorTokens.{with_word_bytes}
use Rattle.mw_wat.proofs.reading.lexer.word_length.Given as goal

abbrev pub invariant-loop-n : goal.invariant-loop-n
invariant-loop-n l = with_word_bytes (take l.n l.bytes) (whole_word (drop l.n l.bytes)) ≡ whole_word l.bytes
