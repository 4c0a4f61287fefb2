use Rattle.std.proofs.Common.{map, take}
use Rattle.mw_types.specs.Types.{after}
use Rattle.mw_types.specs.Solutions.{substitution_of}
use Rattle.mw_infer.specs.Inferring.{AreFresh, least}
use Rattle.mw_infer.specs.Emitting.{close_of}
use Rattle.mw_infer.specs.Known.{Knows}
use Rattle.mw_infer.proofs.fresh.first_open.Given as goal

abbrev pub invariant-loop-spot : goal.invariant-loop-spot
invariant-loop-spot l = record {
  fresh : AreFresh (after least (substitution_of l.solved)) (map close_of (take l.spot-index l.closes));
  known : Knows l.solved l.known.items;
}
