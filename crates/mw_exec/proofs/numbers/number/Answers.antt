use Rattle.mw_exec.proofs.NumberActs.{number_at}
use Rattle.mw_exec.proofs.numbers.number.Goals as goal

pub returns-in-I32-clause-comes : goal.returns-in-I32-clause-comes
returns-in-I32-clause-comes c = number_at c.integer32.result c.args.op _ c.args.height c.args.stack.now
    c.integer32.new.stack c.in-I32.is c.integer32.ensures.comes

pub returns-in-I64-clause-comes : goal.returns-in-I64-clause-comes
returns-in-I64-clause-comes c = number_at c.integer64.result c.args.op _ c.args.height c.args.stack.now
    c.integer64.new.stack c.in-I64.is c.integer64.ensures.comes
