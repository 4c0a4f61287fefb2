-- What a verdict says of the module in a file.
use Rattle.std.proofs.Common.{◌≡◌, Bool, true, false, List, ℕ, refl, sym, subst}
use Rattle.mw_wasm.specs.Syntax.{PureModule}
use Rattle.mw_console.specs.declared.status.Status.{Status}
use Rattle.mw_console.specs.declared.status.Status.TheVariants.{Answer}
use Rattle.mw_console.specs.declared.status.Status.TheVariants.{BadModule, Invalid}
use Rattle.mw_judge.specs.ModuleFiles.{IsFileOf, Judges}
use Rattle.mw_judge.proofs.FileLaws.{never_bad_and_file}
use Rattle.mw_drive.specs.Extents.{whole, on_a_file, extent}
use Rattle.mw_drive.specs.Verdicts.{IsVerdictOn}
use Rattle.mw_drive.specs.Works.{judging, Meaning, judged, IsMeaning, of_module, of_bad_file, status_of}

verdict_as : (valid : Bool) (bytes : List ℕ) (m : PureModule) → IsFileOf bytes m → Judges valid m
    → IsVerdictOn (status_of (judged valid)) bytes
verdict_as true bytes m is judges = (m, is, judges)
verdict_as false bytes m is judges = (m, is, judges)

verdict_of : {bytes : List ℕ} {m : Meaning} → IsMeaning (judging bytes) m → IsVerdictOn (status_of m) bytes
verdict_of {bytes} (of_module {valid = valid} wasm is judges) = verdict_as valid bytes wasm is judges
verdict_of {bytes} (of_bad_file {fault = f} bad) = λ m is. never_bad_and_file bytes m f is bad

-- so does a status that is of a whole text of a file that was judged
pub verdict_on : (bytes : List ℕ) (s : Status)
    → (extent on_a_file s ≡ whole → (m : Meaning) × IsMeaning (judging bytes) m × (s ≡ status_of m))
    → IsVerdictOn s bytes
verdict_on bytes s says = by_status s says
  where
    meant : (t : Status) → ((m : Meaning) × IsMeaning (judging bytes) m × (t ≡ status_of m)) → IsVerdictOn t bytes
    meant t (m, is, same) = subst (λ s. IsVerdictOn s bytes) (sym same) (verdict_of is)

    by_status : (t : Status)
        → (extent on_a_file t ≡ whole → (m : Meaning) × IsMeaning (judging bytes) m × (t ≡ status_of m))
        → IsVerdictOn t bytes
    by_status Answer says = meant Answer (says refl)
    by_status BadModule says = meant BadModule (says refl)
    by_status Invalid says = meant Invalid (says refl)
    by_status t says = tt
