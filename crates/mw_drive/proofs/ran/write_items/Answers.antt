use Rattle.std.proofs.Common.{◌≡◌, ap}
use Rattle.std.specs.Option.{option_map}
use Rattle.std.specs.List.{AllByRecursion}
use Rattle.mw_cache.specs.HonestFiles.{IsHonest}
use Rattle.mw_console.specs.Texts.{Ending, ending_line}
use Rattle.mw_tasks.specs.Phases.{codes_in}
use Rattle.mw_reading.specs.NamedPrograms.{named_program_of}
use Rattle.mw_drive.specs.ProgramMeaning.{all_gave, items_run, program_run, ended}
use Rattle.mw_drive.specs.ItemOutcomes.{outcomes_run, run_with}
use Rattle.mw_drive.specs.ProgramRuns.{ending_of, kernels_of, IsBuilt}
use Rattle.mw_drive.specs.Works.{mode_of, shown_text}
use Rattle.mw_drive.proofs.Fronts.{grows_front, grows_nothing, grows_whole}
use Rattle.mw_drive.proofs.HonestRuns.{none_wrong}
use Rattle.mw_drive.proofs.ItemsRun.{one_for_each, all_placed, all_codes}
use Rattle.mw_drive.proofs.PrintedKernels.{printed_run}
use Rattle.mw_drive.proofs.RunFaults.{unwritten_usual, same_usual, job_is_usual, if_bad}
use Rattle.mw_drive.proofs.RunWritten.{some_ending, items_ending, item_ended, main_ended, phase_run, run_failed}
use Rattle.mw_drive.proofs.RunWritten.{run_ended, line_failed}
use Rattle.mw_drive.proofs.ran.write_items.Given.{Over}
use Rattle.mw_drive.proofs.ran.write_items.Goals.{After-as_slice, After-write_end-2}
use Rattle.mw_drive.proofs.ran.write_items.Goals as goal

-- all kernels that gave code have their modules
all_built : (g : Over) (c : After-as_slice g)
    → AllByRecursion (IsBuilt (mode_of c.args.shown) c.args.cache.now) c.in_ok-built.field-0.built.items
all_built g c =
    c.in_ok-built.ensures.built (mode_of c.args.shown) c.args.cache.now
    (all_placed (mode_of c.args.shown) c.args.fuel c.args.cache.now c.args.program.now c.args.phase.now.outcomes
    c.requires.phase)

-- over honest records the items' part of the run is what was found
items_so : (g : Over) (c : After-as_slice g) → IsHonest c.args.cache.now.load
    → items_run (mode_of c.args.shown) c.args.fuel (named_program_of c.args.program.now)
    ≡ run_with (kernels_of c.as_slice.result.now) (option_map ending_of c.in_ok-built.field-0.end)
items_so g c honest =
    phase_run (mode_of c.args.shown) c.args.fuel c.args.program.now c.args.cache.now c.args.phase.now.outcomes
    c.in_ok-built.field-0.built.items c.as_slice.result.now (option_map ending_of c.in_ok-built.field-0.end) honest
    c.requires.phase c.in_ok-built.ensures.run c.as_slice.ensures.value

-- and the run ends after these kernels
run_so : (g : Over) (c : After-as_slice g) → IsHonest c.args.cache.now.load → (e : Ending)
    × (program_run (mode_of c.args.shown) c.args.fuel (named_program_of c.args.program.now)
    ≡ ended (kernels_of c.as_slice.result.now) e)
run_so g c honest =
    items_ending (mode_of c.args.shown) c.args.fuel c.args.program.now c.requires.typable
    (kernels_of c.as_slice.result.now) (option_map ending_of c.in_ok-built.field-0.end) (items_so g c honest)

-- as main did, where no item ended it
main_so : (g : Over) (c : After-write_end-2 g) → IsHonest c.args.cache.now.load
    → items_run (mode_of c.args.shown) c.args.fuel (named_program_of c.args.program.now)
    ≡ run_with (kernels_of c.as_slice.result.now) (option_map ending_of c.in_ok-built.field-0.end)
    → program_run (mode_of c.args.shown) c.args.fuel (named_program_of c.args.program.now)
    ≡ ended (kernels_of c.as_slice.result.now) (ending_of c.in_ok-end.end)
main_so g c honest items =
    let kernels = kernels_of c.as_slice.result.now in
    let gave : outcomes_run (named_program_of c.args.program.now).items c.args.phase.now.outcomes ≡ all_gave kernels =
    rw c.as_slice.ensures.value (rw c.in_default.is at c.in_ok-built.ensures.run) in
    main_ended (mode_of c.args.shown) c.args.fuel c.args.program.now c.requires.typable kernels
    (codes_in c.args.phase.now.outcomes) (ending_of c.in_ok-end.end) (rw c.in_default.is at items)
    (all_codes (mode_of c.args.shown) c.args.fuel c.args.cache.now c.args.program.now c.args.phase.now.outcomes
    c.requires.phase kernels gave).1 (rw c.mode-mode.ensures at c.in_ok-end.ensures.end honest)

pub items_end-requires : goal.items_end-requires
items_end-requires g c = record {
  each =
      one_for_each (mode_of c.args.shown) c.args.fuel c.args.cache.now c.args.program.now c.args.phase.now.outcomes
      c.requires.phase;
}

pub returns-in_err-built-clause-run : goal.returns-in_err-built-clause-run
returns-in_err-built-clause-run g c = λ honest.
    let e = some_ending (mode_of c.args.shown) c.args.fuel c.args.program.now c.requires.typable in
    run_failed c.args.program.now _ c.from_residual.ensures.1 (unwritten_usual _) e.2 (λ t. grows_nothing _ _)

pub write_kernels-requires-clause-built : goal.write_kernels-requires-clause-built
write_kernels-requires-clause-built g c =
    rw c.as_slice.ensures.value (all_built g (goal.at.write_kernels-requires-clause-built g c).After-as_slice)

pub returns-in_err-write_kernels-clause-run : goal.returns-in_err-write_kernels-clause-run
returns-in_err-write_kernels-clause-run g c = λ honest.
    let run = run_so g (goal.at.returns-in_err-write_kernels-clause-run g c).After-as_slice honest in
    run_failed c.args.program.now _ c.from_residual-in_err-write_kernels.ensures.1 (unwritten_usual _) run.1
    (λ t. grows_front _ _ (shown_text c.args.shown (kernels_of c.as_slice.result.now)) (ending_line run.0)
    (c.in_err-write_kernels.ensures.writes honest t))

pub returns-in_err-status-clause-run : goal.returns-in_err-status-clause-run
returns-in_err-status-clause-run g c = λ honest.
    let items = items_so g (goal.at.returns-in_err-status-clause-run g c).After-as_slice honest in
    line_failed c.args.program.now _ c.from_residual-in_err-status.ensures.1
    (same_usual _ c.in_err-status.ensures.usual)
    (item_ended (mode_of c.args.shown) c.args.fuel c.args.program.now c.requires.typable _ (ending_of c.in-Some.end)
    (rw c.in-Some.is at items)) (c.in_ok-write_kernels.ensures.writes honest) c.in_err-status.ensures.writes

pub returns-in-Some-clause-run : goal.returns-in-Some-clause-run
returns-in-Some-clause-run g c = λ honest.
    let items = items_so g (goal.at.returns-in-Some-clause-run g c).After-as_slice honest in
    run_ended c.args.program.now
    (item_ended (mode_of c.args.shown) c.args.fuel c.args.program.now c.requires.typable _ (ending_of c.in-Some.end)
    (rw c.in-Some.is at items)) (ap kernels_of c.as_slice.ensures.value, c.in_ok-status.ensures.status)
    (c.in_ok-write_kernels.ensures.writes honest) c.in_ok-status.ensures.writes

pub returns-in-Some-clause-printed : goal.returns-in-Some-clause-printed
returns-in-Some-clause-printed g c = λ mode is.
    printed_run c.args.cache.now _ g.K.Sink.tells _ _ _ (ending_of c.in-Some.end) c.in_ok-status.ensures.status
    (rw c.as_slice.ensures.value at (c.in_ok-write_kernels.ensures.printed mode is)) c.in_ok-status.ensures.writes

pub returns-in-Some-clause-built : goal.returns-in-Some-clause-built
returns-in-Some-clause-built g c = all_built g (goal.at.returns-in-Some-clause-built g c).After-as_slice

pub main_end-requires-clause-built : goal.main_end-requires-clause-built
main_end-requires-clause-built g c =
    (all_codes (mode_of c.args.shown) c.args.fuel c.args.cache.now c.args.program.now c.args.phase.now.outcomes
    c.requires.phase (kernels_of c.in_ok-built.field-0.built.items) (rw c.in_default.is at c.in_ok-built.ensures.run)).0

pub returns-in_err-end-clause-run : goal.returns-in_err-end-clause-run
returns-in_err-end-clause-run g c = λ honest.
    let run = run_so g (goal.at.returns-in_err-end-clause-run g c).After-as_slice honest in
    run_failed c.args.program.now _ c.from_residual-in_err-end.ensures.1
    (job_is_usual c.in_err-end.field-0.0 (if_bad c.in_err-end.field-0.0 _ _
    (λ d h. none_wrong c.mode-mode.result c.args.cache.now.load honest _ h.bad.1) c.in_err-end.ensures.bad))
    run.1
    (λ t. grows_whole _ _ (shown_text c.args.shown (kernels_of c.as_slice.result.now)) (ending_line run.0)
    (c.in_ok-write_kernels.ensures.writes honest t))

pub returns-in_err-status-2-clause-run : goal.returns-in_err-status-2-clause-run
returns-in_err-status-2-clause-run g c = λ honest.
    let items = items_so g (goal.at.returns-in_err-status-2-clause-run g c).After-as_slice honest in
    line_failed c.args.program.now _ c.from_residual-in_err-status-2.ensures.1
    (same_usual _ c.in_err-status-2.ensures.usual)
    (main_so g (goal.at.returns-in_err-status-2-clause-run g c).After-write_end-2 honest items)
    (c.in_ok-write_kernels.ensures.writes honest) c.in_err-status-2.ensures.writes

pub returns-clause-run : goal.returns-clause-run
returns-clause-run g c = λ honest.
    let items = items_so g (goal.at.returns-clause-run g c).After-as_slice honest in
    run_ended c.args.program.now (main_so g (goal.at.returns-clause-run g c).After-write_end-2 honest items)
    (ap kernels_of c.as_slice.ensures.value, c.in_ok-status-2.ensures.status)
    (c.in_ok-write_kernels.ensures.writes honest) c.in_ok-status-2.ensures.writes

pub returns-clause-printed : goal.returns-clause-printed
returns-clause-printed g c = λ mode is.
    printed_run c.args.cache.now _ g.K.Sink.tells _ _ _ (ending_of c.in_ok-end.end) c.in_ok-status-2.ensures.status
    (rw c.as_slice.ensures.value at (c.in_ok-write_kernels.ensures.printed mode is)) c.in_ok-status-2.ensures.writes

pub returns-clause-built : goal.returns-clause-built
returns-clause-built g c = all_built g (goal.at.returns-clause-built g c).After-as_slice
