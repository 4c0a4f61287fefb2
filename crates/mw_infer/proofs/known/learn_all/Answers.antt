use Rattle.mw_infer.proofs.Testing.{binder-below}
use Rattle.mw_infer.proofs.known.learn_all.Goals as goal

pub learn-requires-clause-inside : goal.learn-requires-clause-inside
learn-requires-clause-inside c = binder-below _ _ c.args.scope.now c.loop-binder.binder-index _ c.requires.inside
    c.loop-binder-test.true
