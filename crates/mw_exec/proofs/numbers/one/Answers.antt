use Rattle.mw_exec.proofs.NumberActs.{one_comes}
use Rattle.mw_exec.proofs.numbers.one.Goals as goal

pub returns-clause-comes : goal.returns-clause-comes
returns-clause-comes c = one_comes c.computed.result c.args.op c.args.t c.args.height c.args.stack.now
    c.pop_of.new.stack c.computed.new.stack c.in-Some.x c.requires.operands c.in-Some.ensures.some.top
    c.in-Some.ensures.typed c.computed.ensures.comes
