-- What was written of a program whose kernels were to be linked.
use Rattle.std.proofs.Common.{◌≡◌, ℕ, List, Some, Bool, Result, Ok, Err, IfOk, sym, ap}
use Rattle.std.proofs.Common.{◌∙◌}
use Rattle.std.proofs.Common.{subst}
use Rattle.std.specs.Prelude.{pos}
use Rattle.std.specs.Result.{IsErrAnd}
use Rattle.mw_term.specs.Terms.{int}
use Rattle.mw_term.specs.Programs.{program_of}
use Rattle.mw_term.specs.Typable.{Typable}
use Rattle.mw_term.specs.declared.program.Program.{Program}
use Rattle.mw_meaning.specs.declared.mode.Mode.TheVariants.{Plain}
use Rattle.mw_cache.specs.Gots.{CacheState}
use Rattle.mw_cache.specs.HonestFiles.{IsHonest}
use Rattle.mw_tasks.specs.Phases.{AreOutcomesOf}
use Rattle.mw_tasks.specs.declared.outcome.ItemOutcome.{ItemOutcome}
use Rattle.mw_link.specs.Linked.{Kernel}
use Rattle.mw_link.specs.LinkLaw.{AreLinkable}
use Rattle.mw_console.specs.Texts.{Ending, answered}
use Rattle.mw_console.specs.declared.status.Status.{Status}
use Rattle.mw_console.specs.declared.status.Status.TheVariants.{Answer}
use Rattle.mw_drive.specs.declared.fault.RunFault.{RunFault}
use Rattle.mw_reading.specs.NamedPrograms.{named_program_of}
use Rattle.mw_drive.specs.ProgramMeaning.{ItemsRun, items_run}
use Rattle.mw_drive.specs.LinkedPrograms.{in_one, cut_short, link_run}
use Rattle.mw_drive.specs.ItemOutcomes.{outcomes_run}
use Rattle.mw_drive.specs.ProgramRuns.{IsUsual, HasEnding, link_meaning, IsWrittenLinked}
use Rattle.mw_drive.specs.Works.{Meaning, joined, unjoined, text_of, status_of}
use Rattle.mw_drive.proofs.Faults.{front_written, no_answer, fault_is}
use Rattle.mw_drive.proofs.Fronts.{grows_nothing}
use Rattle.mw_drive.proofs.LinkedPrograms.{some_link}
use Rattle.mw_drive.proofs.RunWritten.{phase_is}
use Rattle.mw_reading.proofs.SourceReadings.{unnamed_program}

-- an answer's status is that of an ending
pub written_ends : (r : Result Status RunFault) → IfOk r (λ s. s ≡ Answer) → IfOk r HasEnding
written_ends (Ok s) is = (answered (int (pos 0)), is)
written_ends (Err f) is = tt

module _ (fuel : ℕ) (program : Program) where
  abbrev goes : ItemsRun
  goes = items_run Plain fuel (named_program_of program)

  abbrev pub LinkMeans : Meaning → Type 0
  LinkMeans m = link_meaning (link_run goes) ≡ Some m

  pub typable_means : Typable (program_of program) → (m : Meaning) × LinkMeans m
  typable_means typable =
      some_link fuel (named_program_of program) (subst Typable (sym (unnamed_program program)) typable)

  -- from the outcomes of a phase over honest records
  module _ (cache : CacheState) (outcomes : List ItemOutcome) (honest : IsHonest cache.load)
      (are : AreOutcomesOf Plain (program_of program) fuel cache outcomes) where
    as_found : link_run goes ≡ link_run (outcomes_run (named_program_of program).items outcomes)
    as_found = ap link_run (phase_is Plain fuel program cache outcomes honest are)

    pub means_cut : (e : Ending) → link_run (outcomes_run (named_program_of program).items outcomes) ≡ cut_short e
        → LinkMeans (unjoined e)
    means_cut e is = ap link_meaning (as_found ∙ is)

    module _ (made ks : List Kernel) (same : made ≡ ks)
        (is : link_run (outcomes_run (named_program_of program).items outcomes) ≡ in_one ks) where
      pub means_joined : LinkMeans (joined made)
      means_joined = subst (λ ks. LinkMeans (joined ks)) (sym same) (ap link_meaning (as_found ∙ is))

      pub made_linkable : ((ks : List Kernel) → link_run goes ≡ in_one ks → AreLinkable ks) → AreLinkable made
      made_linkable linkable = subst AreLinkable (sym same) (linkable ks (as_found ∙ is))

-- a fault, before anything was written
pub link_failed : {fuel : ℕ} (program : Program) (P : RunFault → Type 0) (r : Result Status RunFault) {tells : Bool}
    {before : List ℕ} → Typable (program_of program) → IsErrAnd r P → ((f : RunFault) → P f → IsUsual f)
    → IsWrittenLinked fuel (named_program_of program) r tells before before
link_failed {fuel} program P r {tells} {before} typable err usual =
    let m = typable_means fuel program typable in
    record {
      meaning = m.0;
      is_meaning = m.1;
      is_status = no_answer P r (λ s. s ≡ status_of m.0) err;
      usual = fault_is P IsUsual r err usual;
      writes = front_written P r tells before before (text_of m.0) err (λ t. grows_nothing before (text_of m.0));
    }
