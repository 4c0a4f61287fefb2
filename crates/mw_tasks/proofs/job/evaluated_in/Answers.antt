use Rattle.std.proofs.Common.{◌+◌, ◌≤◌, subst}
use Rattle.mw_term.specs.Programs.{program_of}
use Rattle.mw_meaning.specs.StagedMeaning.{runs}
use Rattle.mw_meaning.specs.Outcomes.{names_of_items}
use Rattle.mw_machine.specs.Evaluations.{item, term_of}
use Rattle.mw_cached.specs.Following.{standing}
use Rattle.mw_tasks.proofs.RunCosts.{prices_are}
use Rattle.mw_tasks.proofs.BadAnswers.{bad_item_runs, bad_item}
use Rattle.mw_tasks.proofs.job.evaluated_in.Goals as goal

pub returns-in-Ok-clause-cost : goal.returns-in-Ok-clause-cost
returns-in-Ok-clause-cost g c = λ right.
    let p = program_of c.args.program.now in
    let own = c.args.kernels.now.state.now.functions in
    let all = runs own.functions.mode (names_of_items p.items) c.args.fuel (term_of p (item c.args.number)) in
    subst (λ n. c.evaluate_item.new.kernels.steps.now ≤ c.args.kernels.now.steps.now + n)
    (prices_are own.cache own.functions.mode c.requires.unhinted all)
    (c.in-Ok.ensures.cost right)

pub returns-in-Err-Bad-clause-bad : goal.returns-in-Err-Bad-clause-bad
returns-in-Err-Bad-clause-bad g c =
    let p = program_of c.args.program.now in
    let own = c.args.kernels.now.state.now.functions in
    let bad = c.in-Err-Bad in
    let next = c.evaluate_item.new.kernels in
    bad_item own.functions.mode p c.args.fuel own.cache.cache.load c.args.number bad.digest c.requires.item
    (bad_item_runs {next = standing next.state.now next.steps.now next.asked.now} bad.ensures.hands.3 c.requires.unnoted
    _ bad.digest
    bad.field-0 bad.field-0-is bad.ensures.bad _
    bad.ensures.means)
