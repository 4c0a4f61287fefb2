use Rattle.mw_exec.proofs.CodeEnds.{branch_lost}
use Rattle.mw_exec.proofs.jumps.take_branch.Goals as goal

pub returns-in-None : goal.returns-in-None
returns-in-None c = branch_lost c.args.from c.args.state.now _ c.in-None.ensures.none

pub returns-then-is_in_loop : goal.returns-then-is_in_loop
returns-then-is_in_loop c = c.again.ensures c.args.from
