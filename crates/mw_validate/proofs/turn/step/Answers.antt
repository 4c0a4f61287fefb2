use Rattle.std.proofs.Common.{refl, sym, ap, subst, ◌∙◌}
use Rattle.mw_wasm.specs.Views.{instruction_of, code_of, block_is, loop_is, cond_is}
use Rattle.mw_validate.specs.Checks.{after}
use Rattle.mw_validate.specs.Frames.{inside}
use Rattle.mw_validate.specs.Turns.{context_in, waitings_of}
use Rattle.mw_validate.specs.Lists.{operands_of, Leaves}
use Rattle.mw_validate.specs.Effects.{selected}
use Rattle.mw_validate.proofs.CheckTurns.{block_turn, loop_turn, if_turn, if_failed, failed_turn}
use Rattle.mw_validate.proofs.turn.step.Goals as goal

pub returns-then-not-pop : goal.returns-then-not-pop
returns-then-not-pop c = if_failed (context_in c.args.within.now) c.args.state.now c.args.instruction.now
    c.args.rest.now c.in-If.t (code_of c.in-If.first) (code_of c.in-If.second) c.requires
    (ap instruction_of c.in-If.is ∙ cond_is c.in-If.t c.in-If.first c.in-If.second) c.if-not-pop.ensures

pub returns-in_ok-enter-in-Block : goal.returns-in_ok-enter-in-Block
returns-in_ok-enter-in-Block c = block_turn (context_in c.args.within.now) c.args.state.now c.enter.new.state
    c.args.instruction.now c.args.rest.now c.in-Block.t (code_of c.in-Block.body) c.requires
    (ap instruction_of c.in-Block.is ∙ block_is c.in-Block.t c.in-Block.body) c.in_ok-enter-in-Block.ensures

pub returns-in_ok-enter-in-Loop : goal.returns-in_ok-enter-in-Loop
returns-in_ok-enter-in-Loop c = loop_turn (context_in c.args.within.now) c.args.state.now c.enter-in-Loop.new.state
    c.args.instruction.now c.args.rest.now c.in-Loop.t (code_of c.in-Loop.body) c.requires
    (ap instruction_of c.in-Loop.is ∙ loop_is c.in-Loop.t c.in-Loop.body) c.in_ok-enter-in-Loop.ensures

pub returns-in_ok-enter-in-If : goal.returns-in_ok-enter-in-If
returns-in_ok-enter-in-If c = if_turn (context_in c.args.within.now) c.args.state.now
    (record c.args.state.now { list = c.pop.new.list }) c.enter-in-If.new.state c.args.instruction.now c.args.rest.now
    c.in-If.t (code_of c.in-If.first) (code_of c.in-If.second) c.requires
    (ap instruction_of c.in-If.is ∙ cond_is c.in-If.t c.in-If.first c.in-If.second) c.if-not-pop.ensures refl
    c.in_ok-enter-in-If.ensures

pub returns-else-drop_one : goal.returns-else-drop_one
returns-else-drop_one c = failed_turn (context_in c.args.within.now) c.args.state.now c.args.instruction.now
    c.args.rest.now c.requires
    (ap (λ i. after (inside (context_in c.args.within.now) (waitings_of c.args.state.now.frames.items))
    (instruction_of i) (operands_of c.args.state.now.list)) c.in-Drop.is ∙ c.if-drop_one.ensures)

pub returns-else-branch : goal.returns-else-branch
returns-else-branch c = failed_turn (context_in c.args.within.now) c.args.state.now c.args.instruction.now
    c.args.rest.now c.requires
    (ap (λ i. after (inside (context_in c.args.within.now) (waitings_of c.args.state.now.frames.items))
    (instruction_of i) (operands_of c.args.state.now.list)) c.in-Select.is
    ∙ subst (λ b. Leaves b (selected (operands_of c.args.state.now.list)) c.select_one.new.list) c.if-branch.false
    c.in_ok-select_one-in-Select.ensures)

pub returns-else-branch-2 : goal.returns-else-branch-2
returns-else-branch-2 c = failed_turn (context_in c.args.within.now) c.args.state.now c.args.instruction.now
    c.args.rest.now c.requires
    (ap (λ fs. after (inside (context_in c.args.within.now) (waitings_of fs)) (instruction_of c.args.instruction.now)
    (operands_of c.args.state.now.list)) (sym c.as_slice.ensures.value)
    ∙ subst (λ b.
    Leaves b (after (inside (context_in c.args.within.now) (waitings_of c.as_slice.result.now))
    (instruction_of c.args.instruction.now) (operands_of c.args.state.now.list)) c.plain.new.list) c.if-branch-2.false
    c.in_ok-plain-in-Unreachable.ensures)
