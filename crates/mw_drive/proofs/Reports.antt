-- What was written of a text that a work means, with the status that says the same.
use Rattle.std.proofs.Common.{◌≡◌, inr, ℕ, List, ◌++◌, Bool, IsTrue, ◌∙◌, refl, sym, ap, subst}
use Rattle.mw_outside.specs.Count.{GrowsByFront}
use Rattle.mw_console.specs.declared.status.Status.{Status}
use Rattle.mw_drive.specs.Extents.{a_front, whole, all_or_nothing, Kind, extent}
use Rattle.mw_drive.specs.Running.{IsFaithful, IsCarriedOut}
use Rattle.mw_drive.specs.Works.{Work, Reports}
use Rattle.mw_drive.proofs.RunLemmas.{whole_status, output_of_report}
use Rattle.std.proofs.Common.{Result, Ok, Err, IfOk, length}
use Rattle.mw_console.specs.Texts.{migrated_text}
use Rattle.mw_console.specs.declared.status.Status.TheVariants.{Answer, BadModule}
use Rattle.mw_keeping.specs.Migrations.{IsMigrationHere}
use Rattle.mw_keeping.specs.declared.migrating.FileMigration.{FileMigration}
use Rattle.mw_keeping.proofs.Migrations.{migration_here}
use Rattle.mw_keeping.specs.KeptFiles.{HasGoodFront}
use Rattle.mw_wasm.specs.Syntax.{PureModule}
use Rattle.mw_wat.specs.CanonicalTexts.{canonical_text}
use Rattle.mw_judge.specs.declared.fault.BadFile.{BadFile}
use Rattle.mw_judge.specs.declared.fault.FileFault.{FileFault}
use Rattle.mw_judge.specs.declared.fault.FileFault.TheVariants.{Bad}
use Rattle.mw_judge.specs.FileAnswers.{IfBad}
use Rattle.mw_judge.specs.ModuleFiles.{IsBinary, IsFileOf, IsBadBinary, IsBadFile, Judges}
use Rattle.mw_judge.specs.FileLines.{verdict_line, bad_file_line}
use Rattle.mw_drive.specs.Works.{migrating, writing, judging, migrated, written, judged, faulty, status_of}
use Rattle.mw_drive.specs.Works.{of_migration, of_binary, of_bad_binary, of_module, of_bad_file}

-- what holds of an answer, from what else holds of it
pub ok_then : {A E : Type 0} (P Q : A → Type 0) (r : Result A E) → ((x : A) → P x → Q x) → IfOk r P → IfOk r Q
ok_then P Q (Ok x) f h = f x h
ok_then P Q (Err e) f h = tt

-- a fault of a file is a bad one where it is said to be
pub bad_is : (P : BadFile → Type 0) (e : FileFault) (f : BadFile) → e ≡ Bad f → IfBad P e → P f
bad_is P e f is h = subst (IfBad P) is h

-- the two lines of a migration
pub file_report : (held : List ℕ) (found : FileMigration) → IsMigrationHere held found
    → Reports (migrating held) (migrated_text found.old found.added) Answer
file_report held found is =
    let m = migration_here held found is in
    record {
      meaning = migrated found.old (length m.0);
      is_meaning = of_migration m.1;
      is_text = ap (migrated_text found.old) m.2;
      is_status = refl;
    }

-- a module's text, a verdict, and the line of a fault
pub text_report : {bytes text : List ℕ} (m : PureModule) → IsBinary bytes m → text ≡ canonical_text m
    → Reports (writing bytes) text Answer
text_report m is same = record { meaning = written m; is_meaning = of_binary is; is_text = same; is_status = refl }

pub text_fault : {bytes text : List ℕ} (s : Status) (f : BadFile) → IsBadBinary bytes f → text ≡ bad_file_line f
    → s ≡ BadModule → Reports (writing bytes) text s
text_fault s f bad same is =
    record { meaning = faulty f; is_meaning = of_bad_binary bad; is_text = same; is_status = is }

pub verdict_report : {bytes text : List ℕ} (s : Status) (valid : Bool) (m : PureModule) → IsFileOf bytes m
    → Judges valid m → text ≡ verdict_line valid → s ≡ status_of (judged valid) → Reports (judging bytes) text s
verdict_report s valid m is judges same status =
    record { meaning = judged valid; is_meaning = of_module m is judges; is_text = same; is_status = status }

pub verdict_fault : {bytes text : List ℕ} (s : Status) (f : BadFile) → IsBadFile bytes f → text ≡ bad_file_line f
    → s ≡ BadModule → Reports (judging bytes) text s
verdict_fault s f bad same is =
    record { meaning = faulty f; is_meaning = of_bad_file bad; is_text = same; is_status = is }

-- a file that was as it is now before
pub front_since : (held mid after : List ℕ) → mid ≡ held → HasGoodFront mid after → HasGoodFront held after
front_since held mid after same front = subst (λ h. HasGoodFront h after) same front

module _ (kind : Kind) {work : Work} where
  -- it is the status of a whole text, and so none of another extent
  pub report_whole : {text : List ℕ} {s : Status} → Reports work text s → extent kind s ≡ whole
  report_whole r = ap (extent kind) r.is_status ∙ whole_status kind r.meaning

  module _ {tells : Bool} (before after : List ℕ) where
    -- written whole, with its status
    pub carried_report : (text : List ℕ) (s : Status) → Reports work text s → (IsTrue tells → after ≡ before ++ text)
        → IsCarriedOut kind work s tells before after
    carried_report text s r writes =
        record {
          faithful = λ t. subst (λ x. IsFaithful x work s before after) (sym (report_whole r)) (text, r, writes t);
          meaning = λ w. (r.meaning, r.is_meaning, r.is_status);
          said = λ c. let w = report_whole r in absurd (cc);
        }

    -- a front of it, with the status of a front
    pub carried_some : (text : List ℕ) (s t : Status) → Reports work text s → extent kind t ≡ a_front
        → (IsTrue tells → GrowsByFront before after text) → IsCarriedOut kind work t tells before after
    carried_some text s t r is grows =
        record {
          faithful =
              λ told. subst (λ x. IsFaithful x work t before after) (sym is)
              (inr (text, output_of_report r, grows told));
          meaning = λ w. absurd (cc);
          said = λ c. absurd (cc);
        }

    -- all of it, with a status of all or nothing
    pub carried_all : (text : List ℕ) (s t : Status) → Reports work text s → extent kind t ≡ all_or_nothing
        → (IsTrue tells → after ≡ before ++ text) → IsCarriedOut kind work t tells before after
    carried_all text s t r is writes =
        record {
          faithful =
              λ told. subst (λ x. IsFaithful x work t before after) (sym is)
              (inr (text, output_of_report r, writes told));
          meaning = λ w. absurd (cc);
          said = λ c. absurd (cc);
        }
