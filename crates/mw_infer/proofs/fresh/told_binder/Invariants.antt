use Rattle.mw_term.specs.Terms.{expression_of}
use Rattle.mw_types.specs.Solutions.{substitution_of}
use Rattle.mw_infer.proofs.Holding.{NoneNamed}
use Rattle.mw_infer.proofs.fresh.told_binder.Given as goal

abbrev pub invariant-loop-binder : goal.invariant-loop-binder
invariant-loop-binder l =
    NoneNamed (substitution_of l.solved) l.classifier l.scope (expression_of l.code) l.binder
