-- Over honest records outcomes are what the items mean, and no answer is Bad.
use Rattle.std.proofs.Common.{◌≡◌, ℕ, List, [], ◌∷◌, Bool, Option, Some, None, refl, ap, ◌∙◌, subst}
use denote.Ref.{Bor}
use Rattle.mw_term.specs.Terms.{Value}
use Rattle.mw_term.specs.Programs.{Definition, value as defines, kernel, PureProgram}
use Rattle.mw_meaning.specs.declared.mode.Mode.{Mode}
use Rattle.mw_meaning.specs.Outcomes.{names_of_items}
use Rattle.mw_meaning.specs.StagedMeaning.{Runs}
use Rattle.mw_store.specs.Loads.{LoadState}
use Rattle.mw_compile.specs.Emission.{IsEmissionOf}
use Rattle.mw_cache.specs.Gots.{CacheState, IsRight}
use Rattle.mw_tasks.specs.declared.outcome.ItemOutcome.{ItemOutcome}
use Rattle.mw_tasks.specs.Phases.{EachKernel, IsOutcomeOf, AreOutcomesOf}
use Rattle.mw_tasks.specs.RightRuns.{AreRightRuns, HasWrongRun, HasWrongItem}
use Rattle.mw_cache.specs.HonestFiles.{IsHonest}
use Rattle.mw_cache.proofs.HonestRecords.{honest_load}
use Rattle.mw_keeping.specs.CacheFiles.{IsOpened}
use Rattle.mw_keeping.specs.declared.opening.CacheFile.{CacheFile}
use Rattle.mw_keeping.specs.declared.opening.CacheFile.TheVariants.{Absent, Unread, Read}
use Rattle.mw_drive.specs.Honest.{IsHonestCache, IsMeant, AreMeant}

pub honest_text : (load : LoadState) → IsHonest load → (text : List ℕ) → IsRight load text
honest_text load honest text at l here is = subst (IsEmissionOf l.bytes) is (honest at l here)

-- all runs are right
pub honest_runs : (mode : Mode) (load : LoadState) → IsHonest load → (rs : Runs) → AreRightRuns mode load rs
honest_runs mode load honest rs at less inside = honest_text load honest _

-- and none is wrong
pub none_wrong : (mode : Mode) (load : LoadState) → IsHonest load → (rs : Runs) → HasWrongRun mode load rs → ⊥
none_wrong mode load honest rs h =
    let wrong = h.3 in wrong.wrong (honest_text load honest _ wrong.at wrong.loaded wrong.here wrong.is_text)

pub no_wrong_item : (mode : Mode) (p : PureProgram) (fuel : ℕ) (load : LoadState) → IsHonest load
    → HasWrongItem mode p fuel load → ⊥
no_wrong_item mode p fuel load honest h = none_wrong mode load honest _ h.4

-- so the outcomes are what the items mean
module _ (mode : Mode) (names : List Value) (fuel : ℕ) (cache : CacheState) where
  meant : IsHonest cache.load → (items : List Definition) (outcomes : List ItemOutcome)
      → EachKernel (IsOutcomeOf mode names fuel cache) items outcomes → EachKernel
      (IsMeant mode names fuel cache) items outcomes
  meant honest [] [] h = tt
  meant honest [] (o ∷ outcomes) h = absurd h
  meant honest (defines e ∷ items) outcomes h = meant honest items outcomes h
  meant honest (kernel k e ∷ items) [] h = absurd h
  meant honest (kernel k e ∷ items) (o ∷ outcomes) h = (
    record { means = h.0.means (honest_runs mode cache.load honest _); placed = h.0.placed },
    meant honest items
        outcomes h.1,
  )

  given : (items : List Definition) (outcomes : List ItemOutcome)
      → EachKernel (IsMeant mode names fuel cache) items outcomes → EachKernel
      (IsOutcomeOf mode names fuel cache) items outcomes
  given [] [] h = tt
  given [] (o ∷ outcomes) h = absurd h
  given (defines e ∷ items) outcomes h = given items outcomes h
  given (kernel k e ∷ items) [] h = absurd h
  given (kernel k e ∷ items) (o ∷ outcomes) h =
      (record { means = λ right. h.0.means; placed = h.0.placed }, given items outcomes h.1)

module _ (mode : Mode) (p : PureProgram) (fuel : ℕ) (cache : CacheState) (outcomes : List ItemOutcome) where
  pub are_meant : IsHonest cache.load → AreOutcomesOf mode p fuel cache outcomes → AreMeant mode p fuel cache outcomes
  are_meant honest h = meant mode (names_of_items p.items) fuel cache honest p.items outcomes h

  pub are_outcomes : AreMeant mode p fuel cache outcomes → AreOutcomesOf mode p fuel cache outcomes
  are_outcomes h = given mode (names_of_items p.items) fuel cache p.items outcomes h

-- where nothing was loaded, all is honest
pub nothing_honest : (load : LoadState) → load.records ≡ [] → IsHonest load
nothing_honest load none at l here = let none_here = rw none at here in absurd (cc)

-- so what a cache has that is made over an empty load
pub empty_honest : {cells : List ℕ} {load : LoadState} {cache : CacheState}
    → cache ≡ record { cells = cells; load = load } → load ≡ record { records = []; good = 0 } → IsHonest cache.load
empty_honest {cache = cache} made empty =
    nothing_honest cache.load
    (ap (λ (s : CacheState). s.load.records) made ∙ ap (λ (l : LoadState). l.records) empty)

-- what was loaded of an honest cache file is honest
pub opened_honest : {tells : Bool} {held : List ℕ} (path : Option (Bor (List ℕ))) (file : CacheFile) (load : LoadState)
    → IsOpened tells held path file load → IsHonestCache tells held path → IsHonest load
opened_honest None Absent load is honest = nothing_honest load (ap (λ (l : LoadState). l.records) is)
opened_honest None Unread load is honest = absurd is
opened_honest None (Read count) load is honest = absurd is
opened_honest (Some path) Absent load is honest = absurd is
opened_honest (Some path) Unread load is honest = nothing_honest load (ap (λ (l : LoadState). l.records) is)
opened_honest {held = held} (Some path) (Read count) load is honest =
    let h = honest refl in honest_load held load h.1 (is h.0).is_load
