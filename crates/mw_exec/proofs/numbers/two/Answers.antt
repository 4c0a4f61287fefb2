use Rattle.mw_exec.proofs.NumberActs.{two_comes}
use Rattle.mw_exec.proofs.numbers.two.Goals as goal

pub returns-clause-comes : goal.returns-clause-comes
returns-clause-comes c = two_comes c.computed.result c.args.op c.args.t c.args.height c.args.stack.now
    c.pop_of.new.stack c.pop_of-2.new.stack c.computed.new.stack c.in-Some-pop_of.x c.in-Some.y c.requires.operands
    c.in-Some.ensures.some.top c.in-Some-pop_of.ensures.some.top c.in-Some.ensures.typed c.in-Some-pop_of.ensures.typed
    c.computed.ensures.comes
