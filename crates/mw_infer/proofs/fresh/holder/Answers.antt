use Rattle.std.proofs.Common.{refl}
use Rattle.mw_types.specs.Types.{after}
use Rattle.mw_types.specs.Solutions.{substitution_of}
use Rattle.mw_infer.specs.Inferring.{least}
use Rattle.mw_infer.proofs.Holding.{nearest-at}
use Rattle.mw_infer.proofs.Testing.{binder-below, absent-more, not_true}
use Rattle.mw_infer.proofs.fresh.holder.Goals as goal

pub is_absent_at-requires-clause-inside : goal.is_absent_at-requires-clause-inside
is_absent_at-requires-clause-inside c = binder-below _ _ c.args.scope.now c.loop-binder.binder _ c.requires
    c.loop-binder-test.true

pub returns-then-not-is_absent_at : goal.returns-then-not-is_absent_at
returns-then-not-is_absent_at c = nearest-at (substitution_of c.args.solved.now) c.args.classifier c.args.scope.now
    c.loop-binder.binder _ c.loop-binder-test.true c.loop-binder.invariant
    (λ h. not_true (c.if-not-is_absent_at.ensures.1 h))

pub loop-binder-preserved : goal.loop-binder-preserved
loop-binder-preserved c = absent-more c.args.classifier (after least (substitution_of c.args.solved.now))
    c.args.scope.now c.loop-binder.binder _ c.loop-binder-test.true c.loop-binder.invariant
    (c.if-not-is_absent_at.ensures.0 refl)
