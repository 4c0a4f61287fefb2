use Rattle.mw_term.specs.Programs.{program_of}
use Rattle.mw_meaning.specs.declared.mode.Mode.TheVariants.{Plain}
use Rattle.mw_link.specs.Views.{kernels_of}
use Rattle.mw_drive.specs.ProgramRuns.{ending_of}
use Rattle.mw_drive.specs.Works.{joined, unjoined}
use Rattle.mw_drive.proofs.HonestRuns.{no_wrong_item, empty_honest}
use Rattle.mw_drive.proofs.ItemsRun.{one_for_each, all_placed}
use Rattle.mw_drive.proofs.LinkedWritten.{written_ends, means_cut, means_joined, made_linkable, link_failed}
use Rattle.mw_drive.proofs.RunFaults.{unwritten_usual, job_is_usual, if_bad}
use Rattle.mw_drive.proofs.linked.write_linked.Goals as goal

pub returns-in_err-phase-clause-run : goal.returns-in_err-phase-clause-run
returns-in_err-phase-clause-run g c =
    let honest = empty_honest c.new-cache.ensures c.new.ensures in
    link_failed c.args.program _ _ c.requires.typable c.from_residual.ensures.1
    (job_is_usual c.in_err-phase.field-0.0 (if_bad c.in_err-phase.field-0.0 _ _
    (λ d h. no_wrong_item Plain (program_of c.args.program) c.args.fuel c.new-cache.result.load honest h.1)
    c.in_err-phase.ensures.bad))

pub cut_short-requires-clause-each : goal.cut_short-requires-clause-each
cut_short-requires-clause-each g c =
    one_for_each Plain c.args.fuel c.new-cache.result c.args.program c.in_ok-phase.phase.outcomes
    c.in_ok-phase.ensures.outcomes

pub cut_short-requires-clause-placed : goal.cut_short-requires-clause-placed
cut_short-requires-clause-placed g c = (
  c.new-cache.result,
  all_placed Plain c.args.fuel c.new-cache.result c.args.program c.in_ok-phase.phase.outcomes
      c.in_ok-phase.ensures.outcomes,
)

pub returns-in_err-end-clause-run : goal.returns-in_err-end-clause-run
returns-in_err-end-clause-run g c =
    link_failed c.args.program _ _ c.requires.typable c.from_residual-in_err-end.ensures.1 (unwritten_usual _)

pub returns-in-Some-clause-run : goal.returns-in-Some-clause-run
returns-in-Some-clause-run g c = record {
  meaning = unjoined (ending_of c.in-Some.end);
  is_meaning =
      means_cut c.args.fuel c.args.program c.new-cache.result c.in_ok-phase.phase.outcomes
      (empty_honest c.new-cache.ensures c.new.ensures) c.in_ok-phase.ensures.outcomes (ending_of c.in-Some.end)
      (rw c.in-Some.is at c.in_ok-end.ensures.cut);
  is_status = c.write_end.ensures.status;
  usual = c.write_end.ensures.usual;
  writes = c.write_end.ensures.writes;
}

pub returns-in_err-kernels-clause-run : goal.returns-in_err-kernels-clause-run
returns-in_err-kernels-clause-run g c =
    link_failed c.args.program _ _ c.requires.typable c.from_residual-in_err-kernels.ensures.1 (unwritten_usual _)

pub write_module-requires : goal.write_module-requires
write_module-requires g c =
    let cut = rw c.in_default.is at c.in_ok-end.ensures.cut in
    record {
      linkable =
          made_linkable c.args.fuel c.args.program c.new-cache.result c.in_ok-phase.phase.outcomes
          (empty_honest c.new-cache.ensures c.new.ensures) c.in_ok-phase.ensures.outcomes
          (kernels_of c.in_ok-kernels.kernels.items) cut.0 (c.in_ok-kernels.ensures cut.0 cut.1) cut.2
          c.requires.linkable;
    }

pub returns-clause-run : goal.returns-clause-run
returns-clause-run g c =
    let cut = rw c.in_default.is at c.in_ok-end.ensures.cut in
    let made = kernels_of c.in_ok-kernels.kernels.items in
    record {
      meaning = joined made;
      is_meaning =
          means_joined c.args.fuel c.args.program c.new-cache.result c.in_ok-phase.phase.outcomes
          (empty_honest c.new-cache.ensures c.new.ensures) c.in_ok-phase.ensures.outcomes made cut.0
          (c.in_ok-kernels.ensures cut.0 cut.1) cut.2;
      is_status = c.write_module.ensures.status;
      usual = c.write_module.ensures.usual;
      writes = c.write_module.ensures.writes;
    }

pub returns-clause-ended : goal.returns-clause-ended
returns-clause-ended g c = written_ends c.write_module.result c.write_module.ensures.status
