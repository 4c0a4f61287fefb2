use Rattle.mw_exec.proofs.CodeEnds.{returning_lost}
use Rattle.mw_exec.proofs.jumps.give_back.Goals as goal

pub returns : goal.returns
returns c = returning_lost c.args.state.now c.loop-waiting.state _ c.loop-waiting.invariant.0 c.in_default.ensures.none
