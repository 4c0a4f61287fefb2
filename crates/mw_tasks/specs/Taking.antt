-- What workers took of an evaluation's kernel items, and its places.
use Rattle.std.specs.Prelude.{ℕ, ◌≡◌, List, Option, Some, IfSome, slice_get}
use Rattle.std.specs.List.{AllZip}
use Rattle.mw_term.specs.Programs.{program_of}
use Rattle.mw_tasks.specs.declared.job.Done.{Done}
use Rattle.mw_tasks.specs.declared.job.Evaluation.{Evaluation}
use Rattle.mw_tasks.specs.declared.job.Taken.{Taken}
use Rattle.mw_tasks.specs.Phases.{IsDoneAt}

-- what the work on the item of this number gave
abbrev pub IsDoneIn : Evaluation → ℕ → Done → Type 0
IsDoneIn job number done = IsDoneAt job.mode (program_of job.program.now) job.fuel job.cache.now number done

-- it has a place among the kernel items, and is what the work on the item there gave
abbrev pub IsTakenIn : Evaluation → Taken → Type 0
IsTakenIn job taken = (number : ℕ) × (slice_get job.numbers.now taken.at ≡ Some number) × IsDoneIn job number taken.done

-- there is a place for each kernel item, and what is in one, if anything is, is what the work on its item gave
abbrev pub AreInPlace : Evaluation → List (Option Done) → Type 0
AreInPlace job places = AllZip (λ number place. IfSome place (IsDoneIn job number)) job.numbers.now places
