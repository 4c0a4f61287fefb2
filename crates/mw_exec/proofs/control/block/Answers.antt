use Rattle.mw_exec.proofs.TurnRules.{block_entered}
use Rattle.mw_exec.proofs.control.block.Goals as goal

pub returns : goal.returns
returns c = block_entered c.args.t c.is_some.result c.args.body.now.inner.items c.args.state.now c.enter.new.state
    c.is_some.ensures c.in_ok-enter.ensures
