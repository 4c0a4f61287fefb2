use Rattle.mw_cached.specs.Following.{standing}
use Rattle.mw_tasks.proofs.BadAnswers.{bad_main_runs}
use Rattle.mw_tasks.proofs.entry_phase.evaluated_over.Goals as goal

pub returns-in-Err-Bad-clause-bad : goal.returns-in-Err-Bad-clause-bad
returns-in-Err-Bad-clause-bad g c =
    let bad = c.in-Err-Bad in
    let next = c.evaluate_main.new.kernels in
    bad_main_runs {next = standing next.state.now next.steps.now next.asked.now} bad.ensures.hands.3 c.requires.unnoted
    _ bad.digest
    bad.field-0 bad.field-0-is bad.ensures.bad _
    bad.ensures.means
