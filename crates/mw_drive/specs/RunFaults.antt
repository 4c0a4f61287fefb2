-- Why a run wasn't written whole, and what counts of faults say of it.
use Rattle.std.specs.Prelude.{◌≡◌, ℕ, List, Result, Ok, Err}
use Rattle.mw_outside.specs.Count.{Rose}
use Rattle.mw_outside.specs.declared.errors.WriteFault.TheVariants.{Failed, Memory}
use Rattle.mw_spread.specs.declared.job.JobFault.{JobFault}
use Rattle.mw_spread.specs.declared.job.JobFault.TheVariants as job
use Rattle.mw_drive.specs.declared.fault.RunFault.{RunFault}
use Rattle.mw_drive.specs.declared.fault.RunFault.TheVariants.{Unwritten, Bad}

abbrev pub fault_of_job : JobFault → RunFault
fault_of_job (job.Memory error) = Unwritten (Memory error)
fault_of_job (job.Bad digest) = Bad digest

-- what holds of the digest of a bad record
abbrev pub IfBadRecord : (List ℕ → Type 0) → RunFault → Type 0
IfBadRecord P (Unwritten fault) = Unit {0}
IfBadRecord P (Bad digest) = P digest

-- a failure of the sink comes only where its count of faults rose, and else the count stands
abbrev pub BlamesSink : {A : Type 0} → Result A RunFault → (old new : ℕ) → Type 0
BlamesSink (Ok x) old new = new ≡ old
BlamesSink (Err (Unwritten Failed)) old new = Rose old new
BlamesSink (Err (Unwritten (Memory error))) old new = new ≡ old
BlamesSink (Err (Bad digest)) old new = new ≡ old
