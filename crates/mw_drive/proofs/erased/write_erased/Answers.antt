use Rattle.std.proofs.Common.{ap, sym, subst}
use Rattle.mw_term.specs.Programs.{program_of}
use Rattle.mw_meaning.specs.declared.mode.Mode.TheVariants.{Plain}
use Rattle.mw_meaning.proofs.ErasedMain.{typable_names_are_bound}
use Rattle.mw_tasks.specs.Phases.{codes_in}
use Rattle.mw_drive.specs.Honest.{AreMeant}
use Rattle.mw_drive.specs.ProgramRuns.{ending_of}
use Rattle.mw_drive.proofs.HonestRuns.{are_outcomes, none_wrong, empty_honest}
use Rattle.mw_drive.proofs.RunFaults.{unwritten_usual, job_is_usual, if_bad}
use Rattle.mw_drive.proofs.ErasedWritten.{program_source, small_types, no_outcomes, erased_is, erased_failed}
use Rattle.mw_drive.proofs.erased.write_erased.Goals as goal

pub erase_program-requires-clause-names : goal.erase_program-requires-clause-names
erase_program-requires-clause-names g c =
    typable_names_are_bound (program_of c.args.program.now) (program_source c.args.program.now) c.requires.typable

pub returns-in_err-erased-clause-run : goal.returns-in_err-erased-clause-run
returns-in_err-erased-clause-run g c =
    erased_failed c.args.program.now _ _ c.requires.typable c.from_residual.ensures.1 (unwritten_usual _)

pub main_end-requires-clause-typable : goal.main_end-requires-clause-typable
main_end-requires-clause-typable g c =
    c.in_ok-erased.ensures.typable (program_source c.args.program.now) c.requires.typable

pub main_end-requires-clause-small : goal.main_end-requires-clause-small
main_end-requires-clause-small g c = small_types (program_of c.in_ok-erased.erased) c.in_ok-erased.ensures.unstaged

pub main_end-requires-clause-phase : goal.main_end-requires-clause-phase
main_end-requires-clause-phase g c =
    are_outcomes Plain (program_of c.in_ok-erased.erased) c.args.fuel c.new-cache.result _
    (subst (AreMeant Plain (program_of c.in_ok-erased.erased) c.args.fuel c.new-cache.result)
    (sym c.no_kernels-phase.ensures)
    (no_outcomes c.args.fuel c.new-cache.result (program_of c.in_ok-erased.erased) c.in_ok-erased.ensures.unstaged))

pub returns-in_err-end-clause-run : goal.returns-in_err-end-clause-run
returns-in_err-end-clause-run g c =
    let honest = empty_honest c.new-cache.ensures c.new.ensures in
    erased_failed c.args.program.now _ _ c.requires.typable c.from_residual-in_err-end.ensures.1
    (job_is_usual c.in_err-end.field-0.0 (if_bad c.in_err-end.field-0.0 _ _
    (λ d h. none_wrong Plain c.new-cache.result.load honest _ h.bad.1) c.in_err-end.ensures.bad))

pub returns-clause-run : goal.returns-clause-run
returns-clause-run g c = record {
  ending = ending_of c.in_ok-end.end;
  is_run =
      erased_is (program_of c.args.program.now) (program_of c.in_ok-erased.erased) c.args.fuel
      (ending_of c.in_ok-end.end) c.in_ok-erased.ensures.erased c.in_ok-erased.ensures.unstaged
      (rw (ap codes_in c.no_kernels-phase.ensures) at
      c.in_ok-end.ensures.end (empty_honest c.new-cache.ensures c.new.ensures));
  is_status = c.write_end.ensures.status;
  usual = c.write_end.ensures.usual;
  writes = c.write_end.ensures.writes;
}
