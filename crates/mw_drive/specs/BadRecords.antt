-- Bad records of a cache file, which end a run.
use Rattle.std.specs.Prelude.{◌≡◌, ◌⊎◌, ℕ, List, Bool, IsTrue, Some, slice_get}
use Rattle.sha2.specs.Sha256.{sha256}
use Rattle.mw_term.specs.Terms.{Expression}
use Rattle.mw_term.specs.Programs.{PureProgram}
use Rattle.mw_meaning.specs.declared.mode.Mode.{Mode}
use Rattle.mw_meaning.specs.StagedMeaning.{runs}
use Rattle.mw_meaning.specs.Outcomes.{came_to, item_outcome, names_of_items, names_of_main}
use Rattle.mw_store.specs.Loads.{Loaded, LoadState, IsLoadOf}
use Rattle.mw_compile.specs.Emission.{IsEmissionOf}
use Rattle.mw_cached.specs.StrayRecords.{IsStrayRecord}
use Rattle.mw_tasks.specs.declared.outcome.ItemOutcome.{ItemOutcome}
use Rattle.mw_tasks.specs.Phases.{EachKernel, AreBuiltAll, codes_in}
use Rattle.mw_tasks.specs.RightRuns.{HasWrongRun, HasWrongItem}
use Rattle.mw_tasks.specs.BadItems.{IsBadOfRuns}
use Rattle.mw_drive.specs.declared.shown.Shown.{Shown}
use Rattle.mw_reading.specs.NamedPrograms.{NamedProgram, unnamed}
use Rattle.mw_reading.specs.SourceReading.{IsRead}
use Rattle.mw_drive.specs.Works.{Work, running, mode_of, IsAccepted}

-- All kernel items came to code, and main begins a wrong run after these codes. The digest is that of a record whose
-- module is stray.
pub record IsBadMain (mode : Mode) (p : PureProgram) (fuel : ℕ) (load : LoadState) (outcomes : List ItemOutcome)
    (digest : List ℕ) : Type 0 where
  pub built : AreBuiltAll outcomes
  pub bad : IsBadOfRuns mode load (runs mode (names_of_main p.items (codes_in outcomes)) fuel p.body) digest

-- each kernel item means one of these codes, in order
abbrev pub AreCodesOf : Mode → PureProgram → ℕ → List Expression → Type 0
AreCodesOf mode p fuel codes =
    EachKernel (λ k e (c : Expression). item_outcome mode (names_of_items p.items) fuel e ≡ came_to c) p.items codes

-- one of the runs is wrong that main begins after the codes that the kernel items mean
pub record HasWrongMain (mode : Mode) (p : PureProgram) (fuel : ℕ) (load : LoadState) : Type 0 where
  pub codes : List Expression
  pub are_codes : AreCodesOf mode p fuel codes
  pub wrong : HasWrongRun mode load (runs mode (names_of_main p.items codes) fuel p.body)

-- Of a file with these bytes a record was loaded whose text has this digest, and whose module gives what no kernel
-- gives; and a record was loaded, of the text of a run that a kernel item or main begins, that hasn't the emission of
-- that text.
pub record IsBadRecord (mode : Mode) (p : PureProgram) (fuel : ℕ) (held : List ℕ) (digest : List ℕ) : Type 0 where
  pub load : LoadState
  pub is_load : IsLoadOf held load
  pub stray : IsStrayRecord load digest
  pub wrong : HasWrongItem mode p fuel load ⊎ HasWrongMain mode p fuel load

-- that, where the keeper tells what the file holds
abbrev pub HasBadRecord : Mode → PureProgram → ℕ → Bool → (held : List ℕ) → (digest : List ℕ) → Type 0
HasBadRecord mode p fuel tells held digest = IsTrue tells → IsBadRecord mode p fuel held digest

-- the same of a work: the run of a source's program
pub data IsBadOf : Work → List ℕ → List ℕ → Type 0 where
  of_run : {bytes held digest : List ℕ} {fuel : ℕ} {shown : Shown} (p : NamedProgram) → IsRead bytes p
      → IsAccepted (unnamed p) → IsBadRecord (mode_of shown) (unnamed p) fuel held digest
      → IsBadOf (running bytes fuel shown) held digest

abbrev pub HasBadRecordOf : Work → Bool → (held : List ℕ) → (digest : List ℕ) → Type 0
HasBadRecordOf work tells held digest = IsTrue tells → IsBadOf work held digest

-- each loaded record but the one at this place has the emission of its text
abbrev pub IsHonestBut : LoadState → ℕ → Type 0
IsHonestBut load one = (at : ℕ) (l : Loaded) → slice_get load.records at ≡ Some l → (at ≡ one → ⊥)
    → IsEmissionOf l.bytes l.text

-- where no loaded record but one may be not honest, a digest that a fault tells is that of the one's text
abbrev pub DigestOfTheOne : Type 0
DigestOfTheOne = (work : Work) (held digest : List ℕ) → IsBadOf work held digest
    → (load : LoadState) → IsLoadOf held load
    → (one : ℕ) (r : Loaded) → slice_get load.records one ≡ Some r → IsHonestBut load one → digest ≡ sha256 r.text
