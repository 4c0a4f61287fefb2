use Rattle.std.proofs.Common.{arith}
use Rattle.mw_exec.proofs.TurnRules.{if_zero, jump_other}
use Rattle.mw_exec.proofs.control.jump_if.Goals as goal

pub returns-then-n-eq0 : goal.returns-then-n-eq0
returns-then-n-eq0 c m h = if_zero m h c.in-Some.n c.args.l c.args.state.now c.take_i32.new.state c.if-n-eq0.true
    c.requires c.in-Some.ensures.some

pub returns-else-n-eq0 : goal.returns-else-n-eq0
returns-else-n-eq0 c = jump_other c.jump.result c.in-Some.n c.args.l c.args.state.now c.take_i32.new.state
    c.jump.new.state (omega arith) c.in-Some.ensures.some c.jump.ensures
