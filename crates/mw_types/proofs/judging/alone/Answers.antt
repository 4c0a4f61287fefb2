use Rattle.mw_types.proofs.Halving.{one_alone}
use Rattle.mw_types.proofs.judging.alone.Goals as goal

pub loop-number-preserved : goal.loop-number-preserved
loop-number-preserved c = one_alone c.loop-number.number c.loop-number.parent.items c.push.new.self.items
    c.in_ok-push.ensures.items c.loop-number.invariant
