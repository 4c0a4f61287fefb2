use Rattle.mw_term.specs.Programs.{program_of}
use Rattle.mw_tasks.proofs.Answers.{item_code, item_trap, item_bound, item_fails, item_typed, item_no_value}
use Rattle.mw_tasks.proofs.MachineEvaluation.{item_has_names}
use Rattle.mw_tasks.proofs.kernel_item.evaluate_item.Goals as goal

pub evaluate-requires-clause-body : goal.evaluate-requires-clause-body
evaluate-requires-clause-body g c = (c.args.number, c.kernel_term-term.ensures)

pub returns-in_err-machine-clause-means : goal.returns-in_err-machine-clause-means
returns-in_err-machine-clause-means g c = λ sound.
    item_fails c.from_residual.result c.evaluate.result _ c.in_err-machine.field-0.0 c.from_residual.ensures.1
    c.in_err-machine.was
    (c.evaluate.ensures.means c.args.number _ c.kernel_term-term.ensures
    (item_has_names (program_of c.args.program.now) c.args.number c.requires.item) sound)

pub returns-in-Code-clause-means : goal.returns-in-Code-clause-means
returns-in-Code-clause-means g c = λ sound.
    item_code _ c.in_ok-machine.field-0.machine c.in_ok-machine.field-0.outcome
    (c.in_ok-machine.ensures.means c.args.number _ c.kernel_term-term.ensures
    (item_has_names (program_of c.args.program.now) c.args.number c.requires.item) sound)
    c.in-Code.id c.in_ok-measured_code-in-Code.field-0 c.in-Code.is c.in_ok-measured_code-in-Code.ensures

pub returns-in-Code-clause-cost : goal.returns-in-Code-clause-cost
returns-in-Code-clause-cost g c = λ sound.
    c.in_ok-machine.ensures.cost c.args.number _ c.kernel_term-term.ensures
    (item_has_names (program_of c.args.program.now) c.args.number c.requires.item) sound

pub returns-in-Code-clause-typed : goal.returns-in-Code-clause-typed
returns-in-Code-clause-typed g c =
    item_typed (program_of c.args.program.now) c.args.number c.in_ok-machine.field-0.machine
    c.in_ok-machine.field-0.outcome c.in-Code.id
    c.in_ok-measured_code-in-Code.field-0
    (c.in_ok-machine.ensures.typed
    c.args.number c.kernel_term-term.ensures) c.in-Code.is c.in_ok-measured_code-in-Code.ensures

pub returns-in-Trap-clause-means : goal.returns-in-Trap-clause-means
returns-in-Trap-clause-means g c = λ sound.
    item_trap _ c.in_ok-machine.field-0.machine c.in_ok-machine.field-0.outcome
    (c.in_ok-machine.ensures.means c.args.number _ c.kernel_term-term.ensures
    (item_has_names (program_of c.args.program.now) c.args.number c.requires.item) sound)
    c.in-Trap.trap c.in-Trap.is

pub returns-in-Trap-clause-cost : goal.returns-in-Trap-clause-cost
returns-in-Trap-clause-cost g c = λ sound.
    c.in_ok-machine.ensures.cost c.args.number _ c.kernel_term-term.ensures
    (item_has_names (program_of c.args.program.now) c.args.number c.requires.item) sound

pub returns-in-Bound-clause-means : goal.returns-in-Bound-clause-means
returns-in-Bound-clause-means g c = λ sound.
    item_bound _ c.in_ok-machine.field-0.machine c.in_ok-machine.field-0.outcome
    (c.in_ok-machine.ensures.means c.args.number _ c.kernel_term-term.ensures
    (item_has_names (program_of c.args.program.now) c.args.number c.requires.item) sound)
    c.in-Bound.limit c.in-Bound.is

pub returns-in-Bound-clause-cost : goal.returns-in-Bound-clause-cost
returns-in-Bound-clause-cost g c = λ sound.
    c.in_ok-machine.ensures.cost c.args.number _ c.kernel_term-term.ensures
    (item_has_names (program_of c.args.program.now) c.args.number c.requires.item) sound

pub unreachable-requires : goal.unreachable-requires
unreachable-requires g c =
    item_no_value
    (program_of c.args.program.now) c.args.number c.in_ok-machine.field-0.machine c.in_ok-machine.field-0.outcome
    c.in-Value.field-0
    (c.in_ok-machine.ensures.typed c.args.number c.kernel_term-term.ensures) c.in-Value.is
