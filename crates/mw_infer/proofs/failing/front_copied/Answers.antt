use Rattle.std.proofs.Common.{arith}
use Rattle.mw_infer.proofs.Copying.{front-more}
use Rattle.mw_infer.proofs.failing.front_copied.Goals as goal

pub loop-at-preserved : goal.loop-at-preserved
loop-at-preserved c = front-more c.args.pairs.now c.loop-at.at c.index-pairs-at.result c.in_ok-copied_equation.field-0
    c.loop-at.front c.push.new.self (omega arith) c.index-pairs-at.is c.in_ok-copied_equation.ensures
    c.in_ok-push.ensures.ok c.loop-at.invariant
