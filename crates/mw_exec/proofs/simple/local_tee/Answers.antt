use Rattle.std.proofs.Common.{refl, ap, ◌∙◌, arith, [], drop}
use Rattle.mw_exec.specs.Lists.{above}
use Rattle.mw_exec.proofs.Stacks.{above_pushed}
use Rattle.mw_exec.proofs.LocalRules.{tee_on, tee_lost, tee_none}
use Rattle.mw_exec.proofs.simple.local_tee.Goals as goal

pub returns-in_default-clause-simply : goal.returns-in_default-clause-simply
returns-in_default-clause-simply c m st = tee_none m st c.args.x (drop c.args.base c.args.locals.now.items) []
    (above c.args.height c.args.stack.now.items) [] c.in_default.ensures.none.none

pub returns-then-x-count-clause-simply : goal.returns-then-x-count-clause-simply
returns-then-x-count-clause-simply c m st =
    tee_on m st c.args.base c.args.x c.args.locals.now.items _ (above c.args.height c.args.stack.now.items)
    (above c.args.height c.pop.new.stack.items) (above c.args.height c.put.new.stack.items) c.in-Some.operand
    (omega (arith, c.args.locals.now.ok.0)) c.in-Some.ensures.some.top refl
    (ap (λ us. above c.args.height us) c.put.ensures ∙ above_pushed c.args.height c.pop.new.stack.items
    c.in-Some.operand c.in-Some.ensures.some.kept.long)

pub returns-else-x-count-clause-simply : goal.returns-else-x-count-clause-simply
returns-else-x-count-clause-simply c m st = tee_lost m st c.args.base c.args.x c.args.locals.now.items []
    (above c.args.height c.args.stack.now.items) (above c.args.height c.pop.new.stack.items) [] c.in-Some.operand
    (omega (arith, c.args.locals.now.ok.0)) c.in-Some.ensures.some.top
