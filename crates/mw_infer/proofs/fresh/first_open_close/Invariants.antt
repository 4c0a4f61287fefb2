use Rattle.std.proofs.Common.{map, take}
use Rattle.mw_types.specs.Types.{after}
use Rattle.mw_types.specs.Solutions.{substitution_of}
use Rattle.mw_infer.specs.Inferring.{AreFresh, least}
use Rattle.mw_infer.specs.Emitting.{close_of}
use Rattle.mw_infer.proofs.fresh.first_open_close.Given as goal

abbrev pub invariant-loop-at : goal.invariant-loop-at
invariant-loop-at l = AreFresh (after least (substitution_of l.solved)) (map close_of (take l.at l.closes))
