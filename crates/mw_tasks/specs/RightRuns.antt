-- Runs of code whose text was loaded with the right module, or wasn't loaded, and runs for which that isn't so.
use Rattle.std.specs.Prelude.{ℕ, ◌≡◌, ◌+◌, List, [], ◌∷◌, Some, slice_get}
use Rattle.mw_term.specs.Terms.{Expression, KernelType, Value}
use Rattle.mw_term.specs.Programs.{Definition, value as defines, kernel, PureProgram}
use Rattle.mw_meaning.specs.declared.mode.Mode.{Mode}
use Rattle.mw_meaning.specs.Simplification.{in_mode}
use Rattle.mw_meaning.specs.StagedMeaning.{Runs, runs}
use Rattle.mw_meaning.specs.Outcomes.{names_of_items}
use Rattle.mw_machine.specs.KernelCalls.{AreSound, prices}
use Rattle.mw_key.specs.CanonicalText.{canonical_text}
use Rattle.mw_key.specs.declared.version.Version.TheVariants.{Two}
use Rattle.mw_store.specs.Loads.{Loaded, LoadState}
use Rattle.mw_compile.specs.Emission.{IsEmissionOf}
use Rattle.mw_cache.specs.Gots.{IsRight, loaded_texts}
use Rattle.mw_cache.specs.Hints.{price_beside}

-- a run of code in the mode: no record of the text of what is run was loaded, or it has the right module
abbrev pub IsRightRun : Mode → LoadState → Expression → KernelType → Type 0
IsRightRun mode load c k = IsRight load (canonical_text Two (in_mode mode c) k)

-- all of the runs are right
abbrev pub AreRightRuns : Mode → LoadState → Runs → Type 0
AreRightRuns mode load rs = AreSound (IsRightRun mode load) rs

-- a record of the text was loaded, and the bytes of its module aren't the emission of the text
pub record IsWrong (load : LoadState) (text : List ℕ) : Type 0 where
  pub at : ℕ
  pub loaded : Loaded
  pub here : slice_get load.records at ≡ Some loaded
  pub is_text : loaded.text ≡ text
  pub wrong : IsEmissionOf loaded.bytes text → ⊥

-- one of the runs is of such a text
abbrev pub HasWrongRun : Mode → LoadState → Runs → Type 0
HasWrongRun mode load rs =
    (at : ℕ) × (r : Expression × KernelType) × (slice_get rs at ≡ Some r)
    × IsWrong load (canonical_text Two (in_mode mode r.0) r.1)

-- how many emissions a run of code costs at most: none where the text of what is run was loaded
abbrev pub unloaded_price : Mode → LoadState → Expression → KernelType → ℕ
unloaded_price mode load c k = price_beside (loaded_texts load) (canonical_text Two (in_mode mode c) k)

-- all runs are right that the kernel items begin, each with so many units
abbrev pub AreRightItems : Mode → PureProgram → ℕ → LoadState → Type 0
AreRightItems mode p fuel load =
    (i : ℕ) (k : KernelType) (e : Expression) → slice_get p.items i ≡ Some (kernel k e)
    → AreRightRuns mode load (runs mode (names_of_items p.items) fuel e)

-- one of those runs is wrong
abbrev pub HasWrongItem : Mode → PureProgram → ℕ → LoadState → Type 0
HasWrongItem mode p fuel load =
    (i : ℕ) × (k : KernelType) × (e : Expression) × (slice_get p.items i ≡ Some (kernel k e))
    × HasWrongRun mode load (runs mode (names_of_items p.items) fuel e)

-- how many emissions the runs cost at most that the kernel items begin, together
abbrev pub price_of_items : Mode → List Value → ℕ → LoadState → List Definition → ℕ
price_of_items mode names fuel load [] = 0
price_of_items mode names fuel load (defines e ∷ items) = price_of_items mode names fuel load items
price_of_items mode names fuel load (kernel k e ∷ items) =
    prices (unloaded_price mode load) (runs mode names fuel e) + price_of_items mode names fuel load items
