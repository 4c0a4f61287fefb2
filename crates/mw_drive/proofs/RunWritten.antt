-- From the parts of a program's run to what was written of it.
use Rattle.std.proofs.Common.{◌≡◌, ℕ, List, ◌++◌, Option, None, Some, Bool, IsTrue, Result, Ok, Err, refl, sym}
use Rattle.std.proofs.Common.{ap, ◌∙◌, subst}
use Rattle.std.specs.Result.{IsErrAnd}
use Rattle.std.proofs.lemmas.List.{append_assoc}
use Rattle.mw_outside.specs.Count.{GrowsByFront}
use Rattle.mw_drive.specs.declared.fault.RunFault.{RunFault}
use Rattle.mw_term.specs.Terms.{Expression}
use Rattle.mw_term.specs.Programs.{PureProgram, program_of}
use Rattle.mw_term.specs.Typable.{Typable}
use Rattle.mw_term.specs.declared.program.Program.{Program}
use Rattle.mw_meaning.specs.declared.mode.Mode.{Mode}
use Rattle.mw_console.specs.Texts.{Ending, ending_line}
use Rattle.mw_cache.specs.Gots.{CacheState}
use Rattle.mw_tasks.specs.declared.outcome.ItemOutcome.{ItemOutcome}
use Rattle.mw_cache.specs.HonestFiles.{IsHonest}
use Rattle.mw_tasks.specs.Phases.{AreOutcomesOf}
use Rattle.mw_drive.specs.declared.items.Built.{Built}
use Rattle.mw_drive.specs.declared.shown.Shown.{Shown}
use Rattle.mw_reading.specs.NamedPrograms.{NamedProgram, unnamed, named_program_of}
use Rattle.mw_link.specs.Linked.{Kernel}
use Rattle.mw_drive.specs.ProgramMeaning.{main_after, ended, codes_of, ended_after, with_main, items_run}
use Rattle.mw_drive.specs.ProgramMeaning.{program_run}
use Rattle.mw_drive.specs.Works.{mode_of, shown_text}
use Rattle.mw_drive.specs.ItemOutcomes.{outcomes_run, run_with}
use Rattle.mw_drive.specs.ProgramRuns.{kernels_of, IsUsual, IsWrittenRun}
use Rattle.mw_drive.proofs.Faults.{front_written, no_answer, fault_is}
use Rattle.mw_drive.proofs.Fronts.{grows_after, whole_grows}
use Rattle.mw_drive.proofs.HonestRuns.{are_meant}
use Rattle.mw_drive.proofs.ItemsRun.{run_is}
use Rattle.mw_drive.proofs.ProgramEnds.{program_ends}
use Rattle.mw_reading.proofs.SourceReadings.{unnamed_program}

-- what comes after kernels is an ending, where the run has one
ending_after : (kernels others : List Kernel) (o : Option Ending) (d : Ending)
    → ended_after kernels o ≡ ended others d → (e : Ending) × (o ≡ Some e)
ending_after kernels others None d is = absurd (cc)
ending_after kernels others (Some e) d is = (e, refl)

module _ (mode : Mode) (fuel : ℕ) (program : Program) (typable : Typable (program_of program)) where
  abbrev p : NamedProgram
  p = named_program_of program

  abbrev main : List Expression → Option Ending
  main codes = main_after mode fuel (unnamed p).items p.body codes

  -- the program's run ends
  pub some_ending : (kernels : List Kernel) × (e : Ending) × (program_run mode fuel p ≡ ended kernels e)
  some_ending =
      let h = program_ends mode fuel p (subst Typable (sym (unnamed_program program)) typable) in
      (h.kernels, h.ending, h.is)

  -- after its items too, with these kernels
  pub items_ending : (kernels : List Kernel) (o : Option Ending) → items_run mode fuel p ≡ run_with kernels o
      → (e : Ending) × (program_run mode fuel p ≡ ended kernels e)
  items_ending kernels (Some e) is = (e, ap (with_main main) is)
  items_ending kernels None is =
      let run : program_run mode fuel p ≡ ended_after kernels (main (codes_of kernels)) = ap (with_main main) is in
      let e = ending_after kernels some_ending.0 (main (codes_of kernels)) some_ending.1 (sym run ∙ some_ending.2) in
      (e.0, run ∙ ap (ended_after kernels) e.1)

  -- as an item ended it, or as main did
  pub item_ended : (kernels : List Kernel) (e : Ending) → items_run mode fuel p ≡ run_with kernels (Some e)
      → program_run mode fuel p ≡ ended kernels e
  item_ended kernels e is = ap (with_main main) is

  pub main_ended : (kernels : List Kernel) (codes : List Expression) (e : Ending)
      → items_run mode fuel p ≡ run_with kernels None → codes ≡ codes_of kernels
      → main_after mode fuel (program_of program).items (program_of program).body codes ≡ Some e
      → program_run mode fuel p ≡ ended kernels e
  main_ended kernels codes e is same ends =
      ap (with_main main) is
      ∙ ap (ended_after kernels)
      (ap (λ (q : PureProgram). main_after mode fuel q.items q.body (codes_of kernels)) (unnamed_program program)
      ∙ (ap (main_after mode fuel (program_of program).items (program_of program).body) (sym same) ∙ ends))

-- the items' part of the run, over honest records
pub phase_is : (mode : Mode) (fuel : ℕ) (program : Program) (cache : CacheState) (outcomes : List ItemOutcome)
    → IsHonest cache.load → AreOutcomesOf mode (program_of program) fuel cache outcomes
    → items_run mode fuel (named_program_of program) ≡ outcomes_run (named_program_of program).items outcomes
phase_is mode fuel program cache outcomes honest are =
    run_is mode fuel cache program outcomes (are_meant mode (program_of program) fuel cache outcomes honest are)

-- the same where what was found of the items is lent as a slice
pub phase_run : (mode : Mode) (fuel : ℕ) (program : Program) (cache : CacheState) (outcomes : List ItemOutcome)
    (built lent : List Built) (o : Option Ending) → IsHonest cache.load
    → AreOutcomesOf mode (program_of program) fuel cache outcomes
    → outcomes_run (named_program_of program).items outcomes ≡ run_with (kernels_of built) o → lent ≡ built
    → items_run mode fuel (named_program_of program) ≡ run_with (kernels_of lent) o
phase_run mode fuel program cache outcomes built lent o honest are run is =
    phase_is mode fuel program cache outcomes honest are ∙ (run ∙ ap (λ bs. run_with (kernels_of bs) o) (sym is))

abbrev IsRun : Shown → ℕ → Program → List Kernel → Ending → Type 0
IsRun shown fuel program kernels e = program_run (mode_of shown) fuel (named_program_of program) ≡ ended kernels e

module _ {A : Type 0} {Q : List Kernel → Ending → A → Type 0} {shown : Shown} {fuel : ℕ} (program : Program) where
  -- a fault, after which a front of the whole text was written
  pub run_failed : (P : RunFault → Type 0) {r : Result A RunFault} {tells : Bool} {before after : List ℕ}
      {kernels : List Kernel} {e : Ending} → IsErrAnd r P → ((f : RunFault) → P f → IsUsual f)
      → IsRun shown fuel program kernels e
      → (IsTrue tells → GrowsByFront before after (shown_text shown kernels ++ ending_line e))
      → IsWrittenRun Q shown fuel (named_program_of program) r tells before after
  run_failed P {r} {tells} {before} {after} {kernels} {e} err usual is front = record {
    kernels = kernels;
    ending = e;
    is_run = is;
    answers = no_answer P r (Q kernels e) err;
    usual = fault_is P IsUsual r err usual;
    writes = front_written P r tells before after (shown_text shown kernels ++ ending_line e) err front;
  }

  -- the last line after the kernels
  pub run_ended : {answer : A} {tells : Bool} {before mid after : List ℕ} {kernels : List Kernel} {e : Ending}
      → IsRun shown fuel program kernels e → Q kernels e answer
      → (IsTrue tells → mid ≡ before ++ shown_text shown kernels) → (IsTrue tells → after ≡ mid ++ ending_line e)
      → IsWrittenRun Q shown fuel (named_program_of program) (Ok answer) tells before after
  run_ended {before = before} {kernels = kernels} {e = e} is answers first last = record {
    kernels = kernels;
    ending = e;
    is_run = is;
    answers = answers;
    usual = tt;
    writes = λ t. last t ∙ (ap (λ s. s ++ ending_line e) (first t) ∙ append_assoc before (shown_text shown kernels)
        (ending_line e));
  }

  -- a fault while the last line was written
  pub line_failed : (P : RunFault → Type 0) {r : Result A RunFault} {tells : Bool} {before mid after : List ℕ}
      {kernels : List Kernel} {e : Ending} → IsErrAnd r P → ((f : RunFault) → P f → IsUsual f)
      → IsRun shown fuel program kernels e → (IsTrue tells → mid ≡ before ++ shown_text shown kernels)
      → (IsTrue tells → GrowsByFront mid after (ending_line e))
      → IsWrittenRun Q shown fuel (named_program_of program) r tells before after
  line_failed P {before = before} {mid} {after} {kernels} {e} err usual is first last =
      run_failed P err usual is
      (λ t. grows_after before mid after (shown_text shown kernels) (ending_line e) (first t) (last t))

-- what was written of a run, whatever becomes of its answer
module _ {A B : Type 0} {Q : List Kernel → Ending → A → Type 0} {R : List Kernel → Ending → B → Type 0} {shown : Shown}
    {fuel : ℕ} {p : NamedProgram} {tells : Bool} {before after : List ℕ} where
  pub run_passed : {e : RunFault} (r : Result B RunFault) → IsErrAnd r (λ f. f ≡ e)
      → IsWrittenRun Q shown fuel p (Err e) tells before after → IsWrittenRun R shown fuel p r tells before after
  run_passed (Ok x) h w = absurd h
  run_passed (Err f) h w = record {
    kernels = w.kernels;
    ending = w.ending;
    is_run = w.is_run;
    answers = tt;
    usual = subst IsUsual (sym h) w.usual;
    writes = w.writes;
  }

  pub run_answered : {x : A} {y : B} → IsWrittenRun Q shown fuel p (Ok x) tells before after
      → ((kernels : List Kernel) (e : Ending) → Q kernels e x → R kernels e y)
      → IsWrittenRun R shown fuel p (Ok y) tells before after
  run_answered w f = record {
    kernels = w.kernels;
    ending = w.ending;
    is_run = w.is_run;
    answers = f w.kernels w.ending w.answers;
    usual = tt;
    writes = w.writes;
  }

  pub run_spoiled : {x : A} (P : RunFault → Type 0) (r : Result B RunFault) → IsErrAnd r P
      → ((f : RunFault) → P f → IsUsual f) → IsWrittenRun Q shown fuel p (Ok x) tells before after
      → IsWrittenRun R shown fuel p r tells before after
  run_spoiled P (Ok y) h usual w = absurd h
  run_spoiled P (Err f) h usual w = record {
    kernels = w.kernels;
    ending = w.ending;
    is_run = w.is_run;
    answers = tt;
    usual = usual f h;
    writes = λ t. whole_grows before after (shown_text shown w.kernels ++ ending_line w.ending) (w.writes t);
  }

pub same_kernels : {k j : List Kernel} {d e : Ending} → ended k d ≡ ended j e → k ≡ j
same_kernels is = cc
