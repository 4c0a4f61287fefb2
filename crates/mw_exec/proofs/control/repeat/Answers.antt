use Rattle.mw_exec.proofs.TurnRules.{loop_entered}
use Rattle.mw_exec.proofs.control.repeat.Goals as goal

pub returns : goal.returns
returns c = loop_entered c.args.t c.args.body.now.inner.items c.args.state.now c.enter.new.state c.in_ok-enter.ensures
