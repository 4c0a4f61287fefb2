use Rattle.std.proofs.Common.{◌≡◌, length}
use Rattle.mw_recheck.specs.Reading.{digits_at}
use Rattle.mw_recheck.proofs.text.digits.Given as goal

abbrev pub invariant-loop-rest : goal.invariant-loop-rest
invariant-loop-rest l = digits_at l.value l.rest ≡ digits_at l.fn.value l.fn.bytes

abbrev pub decreases-loop-rest : goal.decreases-loop-rest
decreases-loop-rest l = length l.rest
