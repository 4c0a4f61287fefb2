use Rattle.std.proofs.Common.{refl}
use Rattle.mw_types.proofs.Steps.{wait_step}
use Rattle.mw_types.proofs.state.postpone.Goals as goal

pub returns-clause-step : goal.returns-clause-step
returns-clause-step c = wait_step _ _ c.args.wait refl refl refl c.in_ok-push.ensures.items c.requires.sound
    c.requires.left c.requires.right
