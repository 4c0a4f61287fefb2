use Rattle.std.proofs.Common.{◌≤◌, ◌+◌, List, sym, ap, ◌∙◌, subst}
use Rattle.mw_term.specs.Programs.{program_of}
use Rattle.mw_meaning.specs.Outcomes.{main_outcome, names_of_items, names_of_main}
use Rattle.mw_meaning.specs.OutcomeLaws.{AreCodesOf}
use Rattle.mw_meaning.specs.StagedMeaning.{runs}
use Rattle.mw_machine.specs.CodesInPlace.{expressions_of}
use Rattle.mw_machine.specs.KernelCalls.{prices}
use Rattle.mw_slots.specs.Receipts.{Known}
use Rattle.mw_compile.specs.Entries.{Emitted}
use Rattle.mw_cache.specs.Received.{ReceivesSince}
use Rattle.mw_cached.specs.Following.{price_in}
use Rattle.mw_cached.specs.FunctionStates.{FunctionState}
use Rattle.mw_tasks.specs.Phases.{codes_in, stored_texts}
use Rattle.mw_tasks.specs.RightRuns.{AreRightRuns}
use Rattle.mw_tasks.specs.TaskOutcomes.{IsMainAnswer}
use Rattle.mw_tasks.proofs.AllItems.{all_answered}
use Rattle.mw_tasks.proofs.ModuleReceipts.{codes_are, hinted_by, hinted_as, of_same}
use Rattle.mw_tasks.proofs.entry_phase.main_phase.Goals as goal

pub stored_receipts-requires : goal.stored_receipts-requires
stored_receipts-requires g c =
    let p = program_of c.args.program.now in
    let named = c.as_slice-2.ensures in
    rw named (all_answered c.args.mode
    (names_of_items p.items) c.args.fuel c.args.cache.now p.items c.args.phase.now.outcomes c.requires.phase)

pub evaluated_over-requires-clause-codes : goal.evaluated_over-requires-clause-codes
evaluated_over-requires-clause-codes g c =
    let p = program_of c.args.program.now in
    subst (AreCodesOf p.items)
    (sym (ap expressions_of c.as_slice-3.ensures.value ∙ c.in_ok-codes.ensures ∙ ap codes_in c.as_slice.ensures))
    (codes_are c.args.mode
    (names_of_items p.items) c.args.fuel c.args.cache.now p.items c.args.phase.now.outcomes c.requires.phase
    c.requires.built)

pub returns-clause-means : goal.returns-clause-means
returns-clause-means g c =
    let p = program_of c.args.program.now in
    let own = c.new-state.result.functions in
    let codes = codes_in c.args.phase.now.outcomes in
    of_same
    (λ mode hinted codes. AreRightRuns mode hinted.cache.load
    (runs mode (names_of_main p.items codes) c.args.fuel p.body)
    → IsMainAnswer c.in_ok-outcome.outcome (main_outcome mode (names_of_main p.items codes) c.args.fuel p.body))
    own.functions.mode c.args.mode own.cache (hinted_by c.args.phase.now.outcomes c.args.cache.now)
    (expressions_of c.as_slice-3.result.now) codes
    (ap (λ (f : FunctionState). f.mode) c.new-state.ensures.functions)
    (c.new-state.ensures.cache
    ∙ (c.new-cache.ensures ∙ hinted_as c.args.cache.now c.args.phase.now.outcomes _
    (c.in_ok-hints.ensures.texts ∙ ap stored_texts c.as_slice-2.ensures)))
    (ap expressions_of c.as_slice-3.ensures.value ∙ c.in_ok-codes.ensures ∙ ap codes_in c.as_slice.ensures)
    c.in_ok-outcome.ensures.outcome

pub returns-clause-spent : goal.returns-clause-spent
returns-clause-spent g c =
    let p = program_of c.args.program.now in
    let own = c.new-state.result.functions in
    let codes = codes_in c.args.phase.now.outcomes in
    of_same
    (λ mode hinted codes. AreRightRuns mode hinted.cache.load
    (runs mode (names_of_main p.items codes) c.args.fuel p.body)
    → c.evaluated_over.new.steps ≤ c.args.steps.now
    + prices (λ c k. price_in hinted mode c k) (runs mode (names_of_main p.items codes) c.args.fuel p.body))
    own.functions.mode c.args.mode own.cache (hinted_by c.args.phase.now.outcomes c.args.cache.now)
    (expressions_of c.as_slice-3.result.now) codes
    (ap (λ (f : FunctionState). f.mode) c.new-state.ensures.functions)
    (c.new-state.ensures.cache
    ∙ (c.new-cache.ensures ∙ hinted_as c.args.cache.now c.args.phase.now.outcomes _
    (c.in_ok-hints.ensures.texts ∙ ap stored_texts c.as_slice-2.ensures)))
    (ap expressions_of c.as_slice-3.ensures.value ∙ c.in_ok-codes.ensures ∙ ap codes_in c.as_slice.ensures)
    c.in_ok-outcome.ensures.cost

pub returns-clause-stored : goal.returns-clause-stored
returns-clause-stored g c =
    subst (λ (rs : List (Known Emitted)). ReceivesSince rs c.args.asked.now c.evaluated_over.new.asked)
    (sym c.into_receipts.ensures)
    (c.in_ok-outcome.ensures.follows.received c.if-not-whole.false).1
