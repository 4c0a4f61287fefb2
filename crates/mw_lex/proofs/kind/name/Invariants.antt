use Rattle.std.proofs.Common.{◌≡◌, take}
use Rattle.mw_lex.proofs.kind.name.Given as goal

abbrev pub invariant-loop-byte : goal.invariant-loop-byte
invariant-loop-byte l = l.name ≡ take l.byte-index l.text
