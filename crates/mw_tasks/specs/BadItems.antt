-- Which digests bad answers have.
use Rattle.std.specs.Prelude.{ℕ, List}
use Rattle.mw_term.specs.Programs.{PureProgram}
use Rattle.mw_meaning.specs.declared.mode.Mode.{Mode}
use Rattle.mw_meaning.specs.StagedMeaning.{Runs}
use Rattle.mw_store.specs.Loads.{LoadState}
use Rattle.mw_cached.specs.StrayRecords.{IsStrayRecord}
use Rattle.mw_tasks.specs.RightRuns.{HasWrongRun, HasWrongItem}

-- that of a loaded record whose module is stray, where one of these runs is wrong
abbrev pub IsBadOfRuns : Mode → LoadState → Runs → (digest : List ℕ) → Type 0
IsBadOfRuns mode load rs digest = IsStrayRecord load digest × HasWrongRun mode load rs

-- that of a loaded record whose module is stray, where one of the runs is wrong that the kernel items begin
abbrev pub IsBadOfItems : Mode → PureProgram → ℕ → LoadState → (digest : List ℕ) → Type 0
IsBadOfItems mode p fuel load digest = IsStrayRecord load digest × HasWrongItem mode p fuel load
