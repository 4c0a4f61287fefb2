use Rattle.mw_term.specs.Terms.{kernel_type_of}
use Rattle.mw_term.specs.Programs.{program_of}
use Rattle.mw_cached.specs.Following.{standing}
use Rattle.mw_tasks.proofs.ItemWork.{code_runs, code_finished, trap_finished, bound_finished}
use Rattle.mw_tasks.proofs.job.placed_outcome.Goals as goal

pub obtain-requires : goal.obtain-requires
obtain-requires g c =
    code_runs (program_of c.args.program.now) c.args.number
    (kernel_type_of c.kernel_kind.result.now) c.in_ok-code.field-0 c.in-Code.code
    c.requires.task c.kernel_kind.ensures c.in_ok-code.ensures.typed c.in-Code.is

pub returns-in_ok-got-in-Code-clause-done : goal.returns-in_ok-got-in-Code-clause-done
returns-in_ok-got-in-Code-clause-done g c = λ whole.
    let e = c.in_ok-got-in-Code.ensures in
    code_finished (program_of c.args.program.now) c.args.fuel c.args.number
    (standing c.args.kernels.now.state.now c.args.kernels.now.steps.now c.args.kernels.now.asked.now)
    (record {
      unhinted = c.requires.unhinted;
      none = c.requires.none;
      uncounted = c.requires.uncounted;
      unspent = c.requires.unspent;
      unasked = c.requires.unasked;
    })
    c.in_ok-code.ensures.follows c.in_ok-code.field-0 c.in_ok-code.ensures.outcome c.in_ok-code.ensures.cost
    e.follows c.in-Code.code c.in_ok-got-in-Code.got
    (kernel_type_of c.kernel_kind.result.now) c.kernel_kind.ensures c.in-Code.is
    c.in_ok-code.ensures.typed
    (record { price = e.price; text = e.text; loaded = e.loaded; here = e.here; answered = e.answered }) e.kept whole

pub returns-in-Trap-clause-done : goal.returns-in-Trap-clause-done
returns-in-Trap-clause-done g c = λ whole.
    trap_finished (program_of c.args.program.now) c.args.fuel c.args.number
    (standing c.args.kernels.now.state.now c.args.kernels.now.steps.now c.args.kernels.now.asked.now)
    (record {
      unhinted = c.requires.unhinted;
      none = c.requires.none;
      uncounted = c.requires.uncounted;
      unspent = c.requires.unspent;
      unasked = c.requires.unasked;
    })
    c.in_ok-code.ensures.follows c.in_ok-code.field-0 c.in_ok-code.ensures.outcome c.in_ok-code.ensures.cost
    c.in-Trap.trap c.in-Trap.is whole

pub returns-in-Bound-clause-done : goal.returns-in-Bound-clause-done
returns-in-Bound-clause-done g c = λ whole.
    bound_finished (program_of c.args.program.now) c.args.fuel c.args.number
    (standing c.args.kernels.now.state.now c.args.kernels.now.steps.now c.args.kernels.now.asked.now)
    (record {
      unhinted = c.requires.unhinted;
      none = c.requires.none;
      uncounted = c.requires.uncounted;
      unspent = c.requires.unspent;
      unasked = c.requires.unasked;
    })
    c.in_ok-code.ensures.follows c.in_ok-code.field-0 c.in_ok-code.ensures.outcome c.in_ok-code.ensures.cost
    c.in-Bound.limit c.in-Bound.is whole
