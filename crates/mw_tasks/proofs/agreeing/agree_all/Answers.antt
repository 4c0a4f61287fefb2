use Rattle.mw_tasks.proofs.OneSlot.{all_more}
use Rattle.mw_tasks.proofs.agreeing.agree_all.Goals as goal

pub loop-at-preserved : goal.loop-at-preserved
loop-at-preserved c = all_more c.args.outcomes.now c.loop-at.at c.agree_with.ensures c.loop-at.invariant
