use Rattle.std.proofs.Common.{◌≡◌, take}
use Rattle.mw_term.proofs.copy.copied_name.Given as goal

abbrev pub invariant-loop-byte : goal.invariant-loop-byte
invariant-loop-byte l = l.copy ≡ take l.byte-index l.bytes
