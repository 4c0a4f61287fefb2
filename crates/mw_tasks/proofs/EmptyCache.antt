-- Where nothing was loaded, every run is right, and no answer is bad.
use Rattle.std.proofs.Common.{◌≡◌, ℕ, List, [], Some, subst}
use Rattle.std.specs.Prelude.{slice_get}
use Rattle.std.proofs.lemmas.Option.{none-some}
use Rattle.mw_meaning.specs.declared.mode.Mode.{Mode}
use Rattle.mw_meaning.specs.StagedMeaning.{Runs}
use Rattle.mw_store.specs.Loads.{Loaded as LoadedRecord, LoadState}
use Rattle.mw_cache.specs.Gots.{IsRight}
use Rattle.mw_cached.specs.StrayRecords.{IsStrayRecord}
use Rattle.mw_tasks.specs.RightRuns.{AreRightRuns}

module _ (load : LoadState) (none : load.records ≡ []) where
  nowhere : (at : ℕ) (l : LoadedRecord) → slice_get load.records at ≡ Some l → ⊥
  nowhere at l here = none-some l (subst (λ ls. slice_get ls at ≡ Some l) none here)

  pub text_right : (text : List ℕ) → IsRight load text
  text_right text at l here is = absurd (nowhere at l here)

  pub none_stray : (digest : List ℕ) → IsStrayRecord load digest → ⊥
  none_stray digest stray = nowhere stray.at stray.loaded stray.here

  module _ (mode : Mode) where
    pub all_right : (rs : Runs) → AreRightRuns mode load rs
    all_right rs = λ k d less. text_right _
