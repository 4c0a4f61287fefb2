use Rattle.std.proofs.Common.{map, take}
use Rattle.mw_term.specs.Types.{IsAbsent}
use Rattle.mw_types.specs.Types.{after}
use Rattle.mw_types.specs.Solutions.{substitution_of}
use Rattle.mw_infer.specs.Inferring.{entry_of, least}
use Rattle.mw_infer.specs.Views.{slot_of}
use Rattle.mw_infer.proofs.fresh.holder.Given as goal

abbrev pub invariant-loop-binder : goal.invariant-loop-binder
invariant-loop-binder l =
    IsAbsent l.classifier
    (map (entry_of (after least (substitution_of l.solved))) (map slot_of (take l.binder l.scope)))
