-- Which records are bad that end a run.
use Rattle.std.proofs.Common.{◌≡◌, ◌⊎◌, inl, inr, ℕ, zero, suc, List, [], ◌∷◌, Bool, IsTrue, Option, Some, None, refl}
use Rattle.std.proofs.Common.{ap, arith}
use denote.Ref.{Bor}
use Rattle.std.specs.Prelude.{slice_get}
use Rattle.mw_term.specs.Terms.{Expression, KernelType, Value, expression_of}
use Rattle.mw_term.specs.Programs.{Definition, value as defines, kernel, PureProgram}
use Rattle.mw_meaning.specs.declared.mode.Mode.{Mode}
use Rattle.mw_meaning.specs.StagedMeaning.{runs}
use Rattle.mw_meaning.specs.Outcomes.{Outcome, came_to, item_outcome, names_of_items}
use Rattle.mw_store.specs.Loads.{LoadState, IsLoadOf}
use Rattle.mw_cache.specs.Gots.{CacheState}
use Rattle.mw_tasks.specs.declared.outcome.ItemOutcome.{ItemOutcome}
use Rattle.mw_tasks.specs.declared.outcome.ItemOutcome.TheVariants.{Code, Trap, Bound}
use Rattle.mw_tasks.specs.Phases.{Answers, EachKernel, IsOutcomeOf, AreOutcomesOf, AreBuiltAll, codes_in}
use Rattle.mw_tasks.specs.RightRuns.{HasWrongRun}
use Rattle.mw_tasks.specs.BadItems.{IsBadOfItems}
use Rattle.mw_tasks.proofs.RightOrWrong.{all_or_one}
use Rattle.mw_tasks.proofs.EmptyCache.{none_stray}
use Rattle.mw_cached.specs.StrayRecords.{IsStrayRecord}
use Rattle.mw_keeping.specs.CacheFiles.{IsOpened}
use Rattle.mw_keeping.specs.declared.opening.CacheFile.{CacheFile}
use Rattle.mw_keeping.specs.declared.opening.CacheFile.TheVariants.{Absent, Unread, Read}
use Rattle.mw_drive.specs.BadRecords.{IsBadMain, IsBadRecord}

-- an outcome that is code, where it is the meaning's
code_means : (t : _) (got : _) (a : Outcome Expression) → Answers (Code t got) a → a ≡ came_to (expression_of t)
code_means t got a h = grind arith

module _ (mode : Mode) (names : List Value) (fuel : ℕ) (cache : CacheState) where
  -- one of the items begins a wrong run
  abbrev OneWrong : List Definition → Type 0
  OneWrong items =
      (i : ℕ) × (k : KernelType) × (e : Expression) × (slice_get items i ≡ Some (kernel k e))
      × HasWrongRun mode cache.load (runs mode names fuel e)

  abbrev AreCodes : List Definition → List Expression → Type 0
  AreCodes items codes = EachKernel (λ k e (c : Expression). item_outcome mode names fuel e ≡ came_to c) items codes

  later : (d : Definition) (items : List Definition) → OneWrong items → OneWrong (d ∷ items)
  later d items (i, k, e, here, wrong) = (suc i, k, e, here, wrong)

  -- where all items gave code, either their codes are what they mean, or one of them begins a wrong run
  codes_or_wrong : (items : List Definition) (outcomes : List ItemOutcome)
      → EachKernel (IsOutcomeOf mode names fuel cache) items outcomes → AreBuiltAll outcomes
      → AreCodes items (codes_in outcomes) ⊎ OneWrong items
  codes_or_wrong [] [] h built = inl tt
  codes_or_wrong [] (o ∷ outcomes) h built = absurd h
  codes_or_wrong (defines e ∷ items) outcomes h built = elim (codes_or_wrong items outcomes h built) [
    | inl codes ↦ inl codes
    | inr wrong ↦ inr (later (defines e) items wrong)
  ]
  codes_or_wrong (kernel k e ∷ items) [] h built = absurd h
  codes_or_wrong (kernel k e ∷ items) (Trap t ∷ outcomes) h built = absurd built
  codes_or_wrong (kernel k e ∷ items) (Bound l ∷ outcomes) h built = absurd built
  codes_or_wrong (kernel k e ∷ items) (Code t got ∷ outcomes) h built =
      elim (all_or_one mode cache.load (runs mode names fuel e)) [
        | inr wrong ↦ inr (zero, k, e, refl, wrong)
        | inl right ↦
            elim (codes_or_wrong items outcomes h.1 built) [
              | inl codes ↦ inl (code_means t got (item_outcome mode names fuel e) (h.0.means right), codes)
              | inr wrong ↦ inr (later (kernel k e) items wrong)
            ]
      ]

module _ (mode : Mode) (p : PureProgram) (fuel : ℕ) (cache : CacheState) (held digest : List ℕ)
    (is_load : IsLoadOf held cache.load) where
  pub bad_of_items : IsBadOfItems mode p fuel cache.load digest → IsBadRecord mode p fuel held digest
  bad_of_items bad = record { load = cache.load; is_load = is_load; stray = bad.0; wrong = inl bad.1 }

  pub bad_of_main : (outcomes : List ItemOutcome) → AreOutcomesOf mode p fuel cache outcomes
      → IsBadMain mode p fuel cache.load outcomes digest → IsBadRecord mode p fuel held digest
  bad_of_main outcomes are main =
      elim (codes_or_wrong mode (names_of_items p.items) fuel cache p.items outcomes are main.built) [
        | inl codes ↦
            record {
              load = cache.load;
              is_load = is_load;
              stray = main.bad.0;
              wrong = inr (record { codes = codes_in outcomes; are_codes = codes; wrong = main.bad.1 });
            }
        | inr wrong ↦ record { load = cache.load; is_load = is_load; stray = main.bad.0; wrong = inl wrong }
      ]

-- a stray record is one of a file that was read
pub load_of_stray : (tells : Bool) (held : List ℕ) (path : Option (Bor (List ℕ))) (file : CacheFile) (load : LoadState)
    → IsOpened tells held path file load → IsTrue tells → (digest : List ℕ) → IsStrayRecord load digest
    → IsLoadOf held load
load_of_stray tells held None Absent load opened t digest stray =
    absurd (none_stray load (ap (λ (l : LoadState). l.records) opened) digest stray)
load_of_stray tells held None Unread load opened t digest stray = absurd opened
load_of_stray tells held None (Read n) load opened t digest stray = absurd opened
load_of_stray tells held (Some x) Absent load opened t digest stray = absurd opened
load_of_stray tells held (Some x) Unread load opened t digest stray =
    absurd (none_stray load (ap (λ (l : LoadState). l.records) opened) digest stray)
load_of_stray tells held (Some x) (Read n) load opened t digest stray = (opened t).is_load
