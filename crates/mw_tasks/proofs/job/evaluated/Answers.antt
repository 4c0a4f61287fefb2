use Rattle.std.proofs.Common.{ap, ◌∙◌}
use Rattle.mw_term.specs.Programs.{program_of}
use Rattle.mw_cached.specs.FunctionStates.{FunctionState}
use Rattle.mw_cache.specs.Hints.{HintedState}
use Rattle.mw_tasks.proofs.ItemWork.{left_done}
use Rattle.mw_tasks.proofs.job.evaluated.Goals as goal

pub returns-clause-done : goal.returns-clause-done
returns-clause-done g c =
    let own = c.new-state.result.functions in
    let end = c.outcome_over.new.state in
    left_done (program_of c.args.job.now.program.now) c.args.job.now.fuel c.args.number own.functions.mode
    c.args.job.now.mode
    own.cache.cache c.args.job.now.cache.now c.finished.result
    (record {
      outcome = c.in_ok-outcome.outcome;
      stored = end.stored;
      emitted = end.emitted;
      asked = c.outcome_over.new.asked;
    })
    (ap (λ (f : FunctionState). f.mode) c.new-state.ensures.functions)
    (ap (λ (h : HintedState). h.cache) (c.new-state.ensures.cache ∙ c.new-cache.ensures))
    c.finished.ensures.outcome c.finished.ensures.stored c.finished.ensures.emitted c.finished.ensures.asked
    (c.in_ok-outcome.ensures.done c.if-not-whole.false)
