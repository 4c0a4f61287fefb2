use Rattle.std.proofs.Common.{◌≡◌, drop}
use Rattle.mw_wat.specs.Modules.{are_printable}
use Rattle.mw_wat.proofs.reading.parts.are_printable.Given as goal

abbrev pub invariant-loop-n : goal.invariant-loop-n
invariant-loop-n l = are_printable (drop l.n l.bytes) ≡ are_printable l.bytes
