use Rattle.mw_exec.proofs.Surroundings.{keep_one}
use Rattle.mw_exec.proofs.jumps.keep.Goals as goal

pub returns-in-Some : goal.returns-in-Some
returns-in-Some c = keep_one c.args.from c.args.to c.args.one c.args.stack.now.items c.pop.new.stack.items
    c.truncate-in-Some.new.self.items c.put.new.stack.items c.in-Some.operand c.requires.order c.if-not-one.false
    c.in-Some.ensures.some c.truncate-in-Some.ensures.items c.put.ensures
