use Rattle.mw_infer.specs.Known.{Knows}
use Rattle.mw_infer.proofs.known.learn_all.Given as goal

abbrev pub invariant-loop-binder : goal.invariant-loop-binder
invariant-loop-binder l = Knows l.solved l.known.items
