use Rattle.std.proofs.Common.{◌≡◌, ◌++◌, drop}
use Rattle.std.specs.Prelude.{codes}
use Rattle.std.specs.List.{flat_map}
use Rattle.mw_wat.specs.CanonicalTexts.{escaped}
use Rattle.mw_wat.proofs.pieces.put_octets.Given as goal

abbrev pub invariant-loop-byte : goal.invariant-loop-byte
invariant-loop-byte l = l.out.items ++ flat_map escaped (drop l.byte-index l.list) ≡ (l.fn.out.items ++ codes " \"")
    ++ flat_map escaped l.list
