use Rattle.mw_tasks.proofs.OneSlot.{with_more}
use Rattle.mw_tasks.proofs.agreeing.agree_with.Goals as goal

pub loop-other-preserved : goal.loop-other-preserved
loop-other-preserved c =
    with_more c.args.outcomes.now c.args.at c.loop-other.other c.index-outcomes-at.result
    c.index-outcomes-other.result
    c.index-outcomes-at.is c.index-outcomes-other.is c.agree.ensures c.loop-other.invariant
