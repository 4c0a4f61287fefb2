use Rattle.std.proofs.Common.{◌≡◌, true, List, IfOk, sym}
use Rattle.mw_term.specs.Programs.{program_of}
use Rattle.mw_cache.specs.declared.got.Got.{Got}
use Rattle.mw_cached.specs.declared.kernels.KernelState.{KernelState}
use Rattle.mw_tasks.specs.Phases.{IsDoneAt}
use Rattle.mw_tasks.proofs.ItemWork.{given_back}
use Rattle.mw_tasks.proofs.job.outcome_over.Goals as goal

pub returns-clause-done : goal.returns-clause-done
returns-clause-done g c =
    let own = c.args.state.now.functions in
    given_back
    (λ (s : KernelState) (gots : List Got). s.whole ≡ true → IfOk c.placed_outcome.result
    (λ o. IsDoneAt own.functions.mode (program_of c.args.program.now) c.args.fuel own.cache.cache c.args.number
    record { outcome = o; stored = s.stored; emitted = s.emitted; asked = gots }))
    _ _ _ _ (c.state-1.given.1 (sym c.placed_outcome.ensures.lent.1))
    (c.asked-1.given.1 (sym c.placed_outcome.ensures.lent.2)) c.placed_outcome.ensures.done
