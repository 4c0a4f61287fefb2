use Rattle.std.proofs.Common.{◌≡◌, ◌+◌, drop}
use Rattle.mw_lex.specs.Pieces.{count, is_comment_byte}
use Rattle.mw_lex.proofs.byte.comment_length.Given as goal

abbrev pub invariant-loop-n : goal.invariant-loop-n
invariant-loop-n l = l.n + count is_comment_byte (drop l.n l.bytes) ≡ count is_comment_byte l.bytes
