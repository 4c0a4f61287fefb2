use Rattle.std.proofs.Common.{arith, ◌∙◌, ap, []}
use Rattle.mw_exec.proofs.Stacks.{above_pushed}
use Rattle.mw_exec.proofs.LocalRules.{get_comes, get_lost}
use Rattle.mw_exec.specs.Lists.{above}
use Rattle.mw_exec.proofs.simple.local_get.Goals as goal

pub returns-in_ok-push-clause-comes : goal.returns-in_ok-push-clause-comes
returns-in_ok-push-clause-comes c m st =
    get_comes m st c.args.base c.args.x c.args.locals.now.items (above c.args.height c.args.stack.now.items)
    (above c.args.height c.push.new.stack.items) c.index-operand.result.now (omega (arith, c.args.locals.now.ok.0))
    c.index-operand.ensures
    (ap (λ us. above c.args.height us) c.in_ok-push.ensures ∙ above_pushed c.args.height c.args.stack.now.items
    c.index-operand.result.now c.requires.long)

pub returns-else-x-count-clause-comes : goal.returns-else-x-count-clause-comes
returns-else-x-count-clause-comes c m st = get_lost m st c.args.base c.args.x c.args.locals.now.items
    (above c.args.height c.args.stack.now.items) [] (omega (arith, c.args.locals.now.ok.0))
