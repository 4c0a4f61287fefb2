use Rattle.std.proofs.Common.{rules, ◌∙◌, sym, reverse, take}
use Rattle.mw_validate.proofs.OperandLists.{rest_unknown}
use Rattle.mw_validate.proofs.operands.pops.Goals as goal

pub returns-then-is_empty : goal.returns-then-is_empty
returns-then-is_empty c = sym c.loop-left.invariant.told
    ∙ rest_unknown (reverse (take c.loop-left.left c.args.types.now)) c.loop-left.list.items.items c.loop-left.list.dead
    (search rules) c.if-list.true
