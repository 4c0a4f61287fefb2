use Rattle.std.proofs.Common.{ap, sym, ◌∙◌}
use Rattle.mw_wasm.specs.Syntax.{br_table}
use Rattle.mw_wasm.specs.Views.{instruction_of, block_is, loop_is, cond_is}
use Rattle.mw_exec.proofs.TurnRules.{control_at, turns_at}
use Rattle.mw_exec.proofs.control.control.Goals as goal

pub returns-in-Block : goal.returns-in-Block
returns-in-Block c = control_at _ _ _ _ _ _ _ (ap instruction_of c.in-Block.is ∙ block_is c.in-Block.t c.in-Block.body)
    c.block.ensures

pub returns-in-Loop : goal.returns-in-Loop
returns-in-Loop c = control_at _ _ _ _ _ _ _ (ap instruction_of c.in-Loop.is ∙ loop_is c.in-Loop.t c.in-Loop.body)
    c.repeat.ensures

pub returns-in-If : goal.returns-in-If
returns-in-If c = control_at _ _ _ _ _ _ _ (ap instruction_of c.in-If.is ∙ cond_is c.in-If.t c.in-If.a c.in-If.b)
    c.choose.ensures

pub returns-in-Br : goal.returns-in-Br
returns-in-Br c = turns_at _ _ _ _ _ _ _ (ap instruction_of c.in-Br.is) c.jump.ensures

pub returns-in-BrIf : goal.returns-in-BrIf
returns-in-BrIf c = turns_at _ _ _ _ _ _ _ (ap instruction_of c.in-BrIf.is) c.jump_if.ensures

pub returns-in-Return : goal.returns-in-Return
returns-in-Return c = turns_at _ _ _ _ _ _ _ (ap instruction_of c.in-Return.is) c.return_now.ensures

pub returns-in-BrTable : goal.returns-in-BrTable
returns-in-BrTable c = turns_at _ _ _ _ _ _ _
    (ap instruction_of c.in-BrTable.is ∙ ap (λ ls. br_table ls c.in-BrTable.l) (sym c.as_slice.ensures))
    c.jump_by_table.ensures
