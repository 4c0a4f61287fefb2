-- Where an evaluation over kernels of a cache ends with a bad answer, a run is wrong.
use Rattle.std.proofs.Common.{◌≡◌, inl, inr, ℕ, List, Err, ap, ◌∙◌, subst, arith}
use Rattle.mw_term.specs.Terms.{Expression, PureGroundValue}
use Rattle.mw_term.specs.Programs.{PureProgram}
use Rattle.mw_meaning.specs.declared.mode.Mode.{Mode}
use Rattle.mw_meaning.specs.StagedMeaning.{Runs, runs}
use Rattle.mw_meaning.specs.Outcomes.{Outcome, names_of_items}
use Rattle.mw_machine.specs.declared.kernels.KernelFault.{KernelFault}
use Rattle.mw_machine.specs.declared.kernels.KernelFault.TheVariants as fault
use Rattle.mw_machine.specs.KernelCalls.{Rose, IsNewlyBad}
use Rattle.mw_machine.specs.Evaluations.{item, term_of, defined}
use Rattle.mw_store.specs.Loads.{LoadState}
use Rattle.mw_cached.specs.Following.{Standing, Follows, IsTold}
use Rattle.mw_cached.specs.StrayRecords.{IsStrayRecord}
use Rattle.mw_tasks.specs.TaskOutcomes.{IsKernelItem, IsItemOutcome, IsMainOutcome}
use Rattle.mw_tasks.specs.BadItems.{IsBadOfRuns, IsBadOfItems}
use Rattle.mw_tasks.specs.RightRuns.{AreRightRuns, HasWrongRun}
use Rattle.mw_tasks.proofs.RightOrWrong.{one_is_wrong}

-- the count of bad answers was none and rose
rose_from_none : (new : ℕ) → Rose 0 new → new ≡ 0 → ⊥
rose_from_none new (inl more) none = absurd (omega (arith, more, none))
rose_from_none new (inr most) none = absurd (omega (arith, most, none))

told : (a b : Standing) (d : List ℕ) → a.bad ≡ 0 → Rose a.bad b.bad → b.digest ≡ d → IsTold a b
    → IsStrayRecord a.cache.cache.load d
told a b d none rose is (inl same) =
    absurd (rose_from_none b.bad (subst (λ n. Rose n b.bad) none rose) (same.0 ∙ none))
told a b d none rose is (inr stray) = subst (λ d. IsStrayRecord a.cache.cache.load d) is stray

-- the runs can't all be right
module _ {first next : Standing} (follows : Follows first next) (none : first.bad ≡ 0) (rs : Runs) (d : List ℕ)
    (f : KernelFault) (is : f ≡ fault.Bad d) (bad : IsNewlyBad f first.bad next.bad next.digest) where
  bad_of_runs : (AreRightRuns first.mode first.cache.cache.load rs → ⊥)
      → IsBadOfRuns first.mode first.cache.cache.load rs d
  bad_of_runs never =
      let own = subst (λ f. IsNewlyBad f first.bad next.bad next.digest) is bad in
      (told first next d none own.0 own.1 follows.told, one_is_wrong first.mode first.cache.cache.load rs never)

  pub bad_item_runs : (a : Outcome Expression)
      → (AreRightRuns first.mode first.cache.cache.load rs → IsItemOutcome (Err f) a)
      → IsBadOfRuns first.mode first.cache.cache.load rs d
  bad_item_runs a means = bad_of_runs (λ right. subst (λ f. IsItemOutcome (Err f) a) is (means right))

  pub bad_main_runs : (a : Outcome PureGroundValue)
      → (AreRightRuns first.mode first.cache.cache.load rs → IsMainOutcome (Err f) a)
      → IsBadOfRuns first.mode first.cache.cache.load rs d
  bad_main_runs a means = bad_of_runs (λ right. subst (λ f. IsMainOutcome (Err f) a) is (means right))

-- the runs are those of a kernel item
pub bad_item : (mode : Mode) (p : PureProgram) (fuel : ℕ) (load : LoadState) (number : ℕ) (d : List ℕ)
    → IsKernelItem p number
    → IsBadOfRuns mode load (runs mode (names_of_items p.items) fuel (term_of p (item number))) d
    → IsBadOfItems mode p fuel load d
bad_item mode p fuel load number d x bad = (
  bad.0,
  (
    number,
    x.0,
    x.1,
    x.2,
    subst (λ e. HasWrongRun mode load (runs mode (names_of_items p.items) fuel e)) (ap defined x.2) bad.1,
  ),
)
