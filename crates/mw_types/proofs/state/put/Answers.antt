use Rattle.std.proofs.Common.{refl, ap, arith, length}
use Rattle.mw_types.specs.Satisfying.{joined}
use Rattle.mw_types.proofs.Steps.{put_linked}
use Rattle.mw_types.proofs.Work.{put_work}
use Rattle.mw_types.proofs.state.put.Goals as goal

pub returns-clause-linked : goal.returns-clause-linked
returns-clause-linked c = put_linked _ _ c.args.low c.args.high c.args.met c.requires.sound c.requires.below
    c.requires.inside c.requires.low_root c.requires.high_root c.requires.meeting c.requires.shaped c.requires.extra
    refl (ap (λ h. joined c.args.state.now.shape.items c.args.high c.args.low h) c.shape_of.ensures) refl refl

pub returns-clause-work : goal.returns-clause-work
returns-clause-work c = put_work c.args.state.now.shape.items _ (length c.args.state.now.waiting.items) _ c.args.low
    c.args.high c.args.met (omega arith) (omega (arith, c.requires.sound.lengths))
    (omega (arith, c.requires.sound.lengths)) c.requires.lighter
    (ap (λ h. joined c.args.state.now.shape.items c.args.high c.args.low h) c.shape_of.ensures) refl
