use Rattle.std.proofs.Common.{refl, ◌∙◌, arith}
use Rattle.mw_types.proofs.Lists.{set_length}
use Rattle.mw_types.proofs.Link.{low_set}
use Rattle.mw_types.proofs.Shortening.{joins_down, joins_up}
use Rattle.mw_types.proofs.Steps.{class_step}
use Rattle.mw_types.proofs.state.join.Goals as goal

pub returns-then-one-two-clause-step : goal.returns-then-one-two-clause-step
returns-then-one-two-clause-step c =
    let p = c.find_halving-one.ensures.shorter in
    let q = c.find_halving-two.ensures.shorter in
    let one = c.find_halving-one.result in
    let two = c.find_halving-two.result in
    class_step _ _ c.args.c c.args.d c.requires.sound refl refl refl (set_length _ two one ∙ q.long ∙ p.long)
    (low_set _ two one (omega arith) (omega (arith, q.long, q.inside)) q.low)
    (joins_down _ _ _ c.args.c c.args.d one two p q (omega (arith, q.long, q.inside)) c.find_halving-two.ensures.root)

pub returns-else-one-two-clause-step : goal.returns-else-one-two-clause-step
returns-else-one-two-clause-step c =
    let p = c.find_halving-one.ensures.shorter in
    let q = c.find_halving-two.ensures.shorter in
    let one = c.find_halving-one.result in
    let two = c.find_halving-two.result in
    class_step _ _ c.args.c c.args.d c.requires.sound refl refl refl (set_length _ one two ∙ q.long ∙ p.long)
    (low_set _ one two (omega arith) (omega (arith, q.long, p.long, p.inside)) q.low)
    (joins_up _ _ _ c.args.c c.args.d one two p q (omega (arith, q.long, p.long, p.inside))
    (q.roots one c.find_halving-one.ensures.root))
