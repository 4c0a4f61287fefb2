use Rattle.std.proofs.Common.{◌≡◌, ◌∙◌, sym, subst}
use Rattle.std.specs.List.{All, AllZip}
use denote.Param.Send.{arg_sync, param_sync}
use Rattle.mw_term.specs.Programs.{program_of}
use Rattle.mw_meaning.specs.Outcomes.{names_of_items}
use Rattle.mw_cache.specs.Received.{AreAllReceived}
use Rattle.mw_tasks.specs.Phases.{IsDoneAt, kernel_numbers}
use Rattle.mw_tasks.proofs.WorkerResults.{IsTakenFrom, all_right}
use Rattle.mw_tasks.proofs.AllItems.{numbered_tasks, all_outcomes, all_answered, all_received, all_of_table}
use Rattle.mw_tasks.proofs.AllItems.{all_asked, all_emitted}
use Rattle.mw_tasks.proofs.items_phase.kernels_phase.Given.{Over}
use Rattle.mw_tasks.proofs.items_phase.kernels_phase.Goals.{After-gathered}
use Rattle.mw_tasks.proofs.items_phase.kernels_phase.Goals as goal

-- the numbers that are dealt out are those of the kernel items
numbers_are : (g : Over) (c : After-gathered g) → c.as_slice.result.now ≡ kernel_numbers 0
    (program_of c.args.program.now).items
numbers_are g c = c.as_slice.ensures.value ∙ c.in_ok-numbers.ensures

-- and what is in order is what the work on each of them gave
done : (g : Over) (c : After-gathered g)
    → AllZip (IsDoneAt c.args.mode (program_of c.args.program.now) c.args.fuel c.args.cache.now) c.as_slice.result.now
    c.in_ok-all.all.items
done g c = c.in_ok-all.ensures.done

pub spread-requires-sync-J : goal.spread-requires-sync-J
spread-requires-sync-J g c = search (c.evaluations_cross.ensures, arg_sync, param_sync)

pub spread-requires-clause-items : goal.spread-requires-clause-items
spread-requires-clause-items g c = λ κs long k d less.
    numbered_tasks
    (program_of c.args.program.now) c.requires.typable c.requires.small c.requires.kernels c.as_slice.result.now
    (c.as_slice.ensures.value ∙ c.in_ok-numbers.ensures)

pub in_order-requires-clause-tasks : goal.in_order-requires-clause-tasks
in_order-requires-clause-tasks g c =
    numbered_tasks
    (program_of c.args.program.now) c.requires.typable c.requires.small c.requires.kernels c.as_slice.result.now
    (c.as_slice.ensures.value ∙ c.in_ok-numbers.ensures)

pub in_order-requires-clause-taken : goal.in_order-requires-clause-taken
in_order-requires-clause-taken g c =
    all_right (λ some. All
    (IsTakenFrom (IsDoneAt c.args.mode (program_of c.args.program.now) c.args.fuel c.args.cache.now)
    c.as_slice.result.now) some.items)
    c.as_slice-2.result.now c.in_ok-taken.taken.items c.in_ok-taken.ensures.outputs

pub agree_all-requires : goal.agree_all-requires
agree_all-requires g c =
    let p = program_of c.args.program.now in
    let after = (goal.at.agree_all-requires g c).After-gathered in
    let outcomes = all_outcomes c.args.mode p c.args.fuel c.args.cache.now c.as_slice.result.now
    (numbers_are g after) c.in_ok-all.all.items
    (done g after) c.as_slice-3.result.now (c.as_slice-3.ensures ∙ c.in_ok-phase.ensures.outcomes) in
    all_answered c.args.mode
    (names_of_items p.items) c.args.fuel c.args.cache.now p.items c.as_slice-3.result.now outcomes

pub returns-clause-outcomes : goal.returns-clause-outcomes
returns-clause-outcomes g c =
    let after = (goal.at.returns-clause-outcomes g c).After-gathered in
    all_outcomes c.args.mode (program_of c.args.program.now) c.args.fuel c.args.cache.now c.as_slice.result.now
    (numbers_are g after)
    c.in_ok-all.all.items (done g after) c.in_ok-phase.phase.outcomes c.in_ok-phase.ensures.outcomes

pub returns-clause-stored : goal.returns-clause-stored
returns-clause-stored g c =
    let after = (goal.at.returns-clause-stored g c).After-gathered in
    all_received c.args.mode (program_of c.args.program.now) c.args.fuel c.args.cache.now c.as_slice.result.now
    (numbers_are g after)
    c.in_ok-all.all.items
    (done g after) c.in_ok-phase.phase.outcomes c.in_ok-phase.phase.stored c.in_ok-phase.ensures.outcomes
    c.in_ok-phase.ensures.stored

pub returns-clause-table : goal.returns-clause-table
returns-clause-table g c =
    let after = (goal.at.returns-clause-table g c).After-gathered in
    c.in_ok-phase.ensures.table c.args.cache.now.cells
    (all_of_table c.args.mode (program_of c.args.program.now) c.args.fuel c.args.cache.now c.as_slice.result.now
    (numbers_are g after)
    c.in_ok-all.all.items (done g after))

pub returns-clause-emitted : goal.returns-clause-emitted
returns-clause-emitted g c =
    let after = (goal.at.returns-clause-emitted g c).After-gathered in
    all_emitted c.args.mode (program_of c.args.program.now) c.args.fuel c.args.cache.now c.as_slice.result.now
    (numbers_are g after)
    c.in_ok-all.all.items
    (done g after) c.in_ok-phase.phase.outcomes c.in_ok-phase.phase.emitted c.in_ok-phase.ensures.outcomes
    c.in_ok-phase.ensures.emitted

pub returns-clause-received : goal.returns-clause-received
returns-clause-received g c =
    let after = (goal.at.returns-clause-received g c).After-gathered in
    subst (AreAllReceived c.in_ok-phase.phase.stored) (sym c.in_ok-phase.ensures.asked)
    (all_asked c.args.mode (program_of c.args.program.now) c.args.fuel c.args.cache.now c.as_slice.result.now
    (numbers_are g after)
    c.in_ok-all.all.items (done g after) c.in_ok-phase.phase.stored c.in_ok-phase.ensures.stored)
