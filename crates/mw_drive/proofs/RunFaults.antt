-- Faults that end a run.
use Rattle.std.proofs.Common.{◌≡◌, ℕ, List, Result, Ok, Err, IfErr, sym, subst, arith}
use Rattle.std.specs.Result.{IsErrAnd}
use Rattle.mw_outside.specs.declared.errors.WriteFault.{WriteFault}
use Rattle.mw_spread.specs.declared.job.JobFault.{JobFault}
use Rattle.mw_spread.specs.declared.job.JobFault.TheVariants as job
use Rattle.mw_spread.specs.Outputs.{IfBad}
use Rattle.mw_drive.specs.declared.fault.RunFault.{RunFault}
use Rattle.mw_drive.specs.declared.fault.RunFault.TheVariants.{Unwritten, Bad}
use Rattle.mw_drive.specs.ProgramRuns.{IsUsual}
use Rattle.mw_drive.specs.RunFaults.{fault_of_job, IfBadRecord}

-- the sink's fault is no bad record
pub unwritten_usual : (e : WriteFault) (f : RunFault) → f ≡ Unwritten e → IsUsual f
unwritten_usual e f is = subst IsUsual (sym is) tt

pub same_usual : (e : RunFault) → IsUsual e → (f : RunFault) → f ≡ e → IsUsual f
same_usual e usual f is = subst IsUsual (sym is) usual

-- a fault of the work on items or main
module _ {A : Type 0} (r : Result A RunFault) (e : JobFault) (h : IsErrAnd r (λ f. f ≡ fault_of_job e)) where
  pub job_bad : (P : List ℕ → Type 0) → IfBad e P → IfErr r (IfBadRecord P)
  job_bad P bad = grind arith

-- what is true of bad records follows from more
pub if_bad : (e : JobFault) (P Q : List ℕ → Type 0) → ((digest : List ℕ) → P digest → Q digest) → IfBad e P → IfBad e Q
if_bad (job.Memory error) P Q f h = tt
if_bad (job.Bad digest) P Q f h = f digest h

pub job_is_usual : (e : JobFault) → IfBad e (λ digest. ⊥) → (f : RunFault) → f ≡ fault_of_job e → IsUsual f
job_is_usual (job.Memory error) none f is = subst IsUsual (sym is) tt
job_is_usual (job.Bad digest) none f is = absurd none

-- a fault that is handed on
pub passed_bad : {A : Type 0} (r : Result A RunFault) (e : RunFault) (P Q : List ℕ → Type 0) → IsErrAnd r (λ f. f ≡ e)
    → ((digest : List ℕ) → P digest → Q digest) → IfBadRecord P e → IfErr r (IfBadRecord Q)
passed_bad (Ok x) e P Q h f bad = tt
passed_bad (Err g) (Unwritten error) P Q h f bad = subst (IfBadRecord Q) (sym h) tt
passed_bad (Err g) (Bad digest) P Q h f bad = subst (IfBadRecord Q) (sym h) (f digest bad)

pub bad_maps : {A : Type 0} (r : Result A RunFault) (P Q : List ℕ → Type 0)
    → ((digest : List ℕ) → P digest → Q digest) → IfErr r (IfBadRecord P) → IfErr r (IfBadRecord Q)
bad_maps (Ok x) P Q f bad = tt
bad_maps (Err (Unwritten error)) P Q f bad = tt
bad_maps (Err (Bad digest)) P Q f bad = f digest bad
