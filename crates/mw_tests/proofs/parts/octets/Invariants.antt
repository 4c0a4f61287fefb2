use Rattle.std.proofs.Common.{◌≡◌, take}
use Rattle.mw_tests.proofs.parts.octets.Given as goal

abbrev pub invariant-loop-byte : goal.invariant-loop-byte
invariant-loop-byte l = l.octets ≡ take l.byte-index l.bytes
