use Rattle.mw_term.specs.Programs.{program_of}
use Rattle.mw_tasks.proofs.Answers.{main_value, main_trap, main_bound, main_fails, main_typed, main_no_code}
use Rattle.mw_tasks.proofs.entry.evaluate_main.Goals as goal

pub returns-in_err-outcome-clause-means : goal.returns-in_err-outcome-clause-means
returns-in_err-outcome-clause-means g c = λ sound.
    main_fails c.from_residual.result c.evaluate_with_codes.result _ c.in_err-outcome.field-0.0
    c.from_residual.ensures.1 c.in_err-outcome.was
    (c.evaluate_with_codes.ensures.means sound)

pub unreachable-requires : goal.unreachable-requires
unreachable-requires g c =
    main_no_code
    (program_of c.args.program.now) c.in_ok-outcome.field-0.machine c.in_ok-outcome.field-0.outcome
    c.in-Code.field-0
    c.in_ok-outcome.ensures.typed c.in-Code.is

pub returns-in-Value-clause-means : goal.returns-in-Value-clause-means
returns-in-Value-clause-means g c = λ sound.
    main_value _ c.in_ok-outcome.field-0.machine c.in_ok-outcome.field-0.outcome (c.in_ok-outcome.ensures.means sound)
    c.in-Value.value c.in-Value.is

pub returns-in-Trap-clause-means : goal.returns-in-Trap-clause-means
returns-in-Trap-clause-means g c = λ sound.
    main_trap _ c.in_ok-outcome.field-0.machine c.in_ok-outcome.field-0.outcome (c.in_ok-outcome.ensures.means sound)
    c.in-Trap.trap c.in-Trap.is

pub returns-in-Bound-clause-means : goal.returns-in-Bound-clause-means
returns-in-Bound-clause-means g c = λ sound.
    main_bound _ c.in_ok-outcome.field-0.machine c.in_ok-outcome.field-0.outcome (c.in_ok-outcome.ensures.means sound)
    c.in-Bound.limit c.in-Bound.is

pub returns-in-Value-clause-typed : goal.returns-in-Value-clause-typed
returns-in-Value-clause-typed g c =
    main_typed (program_of c.args.program.now) c.in_ok-outcome.field-0.machine c.in_ok-outcome.field-0.outcome
    c.in-Value.value
    c.in_ok-outcome.ensures.typed c.in-Value.is
