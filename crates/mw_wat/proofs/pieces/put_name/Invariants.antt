use Rattle.std.proofs.Common.{◌≡◌, ◌++◌, drop}
use Rattle.std.specs.Prelude.{codes}
use Rattle.std.specs.List.{flat_map}
use Rattle.mw_wat.specs.CanonicalTexts.{name_byte}
use Rattle.mw_wat.proofs.pieces.put_name.Given as goal

abbrev pub invariant-loop-byte : goal.invariant-loop-byte
invariant-loop-byte l = l.out.items ++ flat_map name_byte (drop l.byte-index l.list) ≡ (l.fn.out.items ++ codes " \"")
    ++ flat_map name_byte l.list
