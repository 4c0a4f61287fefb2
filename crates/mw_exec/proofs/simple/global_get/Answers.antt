use Rattle.std.proofs.Common.{arith, ◌∙◌, ap, []}
use Rattle.mw_exec.proofs.Stacks.{above_pushed}
use Rattle.mw_exec.proofs.LocalRules.{global_comes, global_lost}
use Rattle.mw_exec.specs.Lists.{above}
use Rattle.mw_exec.specs.Views.{store_of}
use Rattle.mw_exec.proofs.simple.global_get.Goals as goal

pub returns-in_ok-push-clause-comes : goal.returns-in_ok-push-clause-comes
returns-in_ok-push-clause-comes c m ls =
    global_comes m (store_of c.args.held.now) c.args.x ls (above c.args.height c.args.stack.now.items)
    (above c.args.height c.push.new.stack.items) c.index-operand.result.now
    (omega (arith, c.args.held.now.globals.ok.0)) c.index-operand.ensures
    (ap (λ us. above c.args.height us) c.in_ok-push.ensures ∙ above_pushed c.args.height c.args.stack.now.items
    c.index-operand.result.now c.requires)

pub returns-else-x-len-clause-comes : goal.returns-else-x-len-clause-comes
returns-else-x-len-clause-comes c m ls = global_lost m (store_of c.args.held.now) c.args.x ls
    (above c.args.height c.args.stack.now.items) [] (omega (arith, c.args.held.now.globals.ok.0))
