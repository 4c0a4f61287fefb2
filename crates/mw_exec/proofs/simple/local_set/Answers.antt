use Rattle.std.proofs.Common.{refl, arith}
use Rattle.mw_exec.specs.Lists.{above}
use Rattle.mw_exec.proofs.LocalRules.{set_comes}
use Rattle.mw_exec.proofs.simple.local_set.Goals as goal

pub returns-then-x-count-clause-comes : goal.returns-then-x-count-clause-comes
returns-then-x-count-clause-comes c m st =
    set_comes m st c.args.base c.args.x c.args.locals.now.items _ (above c.args.height c.args.stack.now.items)
    (above c.args.height c.pop.new.stack.items) c.in-Some.operand (omega (arith, c.args.locals.now.ok.0))
    c.in-Some.ensures.some.top refl
