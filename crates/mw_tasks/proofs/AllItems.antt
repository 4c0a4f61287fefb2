-- The works on all kernel items make up their phase.
use Rattle.std.proofs.Common.{◌≡◌, ◌≤◌, ◌+◌, ℕ, zero, suc, List, [], ◌∷◌, Some, refl, sym, ap, subst, arith}
use Rattle.std.specs.Prelude.{get_or, slice_get}
use Rattle.std.specs.List.{All, AllZip}
use Rattle.std.proofs.Math.ListN.{drop}
use Rattle.std.proofs.lemmas.List.Elements.{All-cons, All-head, All-tail, All-map}
use Rattle.mw_term.specs.Terms.{Expression, KernelType, Value}
use Rattle.mw_term.specs.Programs.{Definition, value as defines, kernel, PureProgram}
use Rattle.mw_term.specs.SmallTypes.{HasSmallTypes}
use Rattle.mw_term.specs.Typable.{Typable}
use Rattle.mw_meaning.specs.declared.mode.Mode.{Mode}
use Rattle.mw_meaning.specs.Outcomes.{names_of_items}
use Rattle.mw_meaning.specs.StagedMeaning.{runs}
use Rattle.mw_slots.specs.Receipts.{Known, IsOf}
use Rattle.mw_compile.specs.Entries.{Emitted}
use Rattle.mw_cache.specs.declared.got.Got.{Got}
use Rattle.mw_cache.specs.declared.got.Got.TheVariants.{Loaded, Stored, Own}
use Rattle.mw_cache.specs.Gots.{CacheState, IsAnswered}
use Rattle.mw_cache.specs.Received.{HasSlot, IsReceived, AreAllReceived}
use Rattle.mw_cached.specs.Receiving.{both_received, all_still_received}
use Rattle.mw_tasks.specs.declared.job.Done.{Done}
use Rattle.mw_tasks.specs.declared.outcome.ItemOutcome.{ItemOutcome}
use Rattle.mw_tasks.specs.declared.outcome.ItemOutcome.TheVariants.{Code, Trap, Bound}
use Rattle.mw_tasks.specs.TaskOutcomes.{IsKernelItem}
use Rattle.mw_tasks.specs.Gathering.{outcomes_of, emitted_by, asked_by, HasAllSlots}
use Rattle.mw_tasks.specs.Phases.{IfBuilt, IsPlaced, IsOutcomeOf, EachKernel, AreOutcomesOf, IsTask, IsDone, IsDoneAt}
use Rattle.mw_tasks.specs.Phases.{HasSmallKernels}
use Rattle.mw_tasks.specs.Phases.{kernel_numbers, unloaded_among}
use Rattle.mw_tasks.specs.RightRuns.{AreRightRuns, AreRightItems, price_of_items}
use Rattle.mw_tasks.proofs.ListWalks.{head_there, rest_after, each_kernel, each_gives, each_mapped}

-- each number is that of a kernel item
numbers_are : (p : PureProgram) (rest : List Definition) (n : ℕ) → rest ≡ drop n p.items
    → All (IsKernelItem p) (kernel_numbers n rest)
numbers_are p [] n is = λ k d less. absurd (omega arith)
numbers_are p (defines e ∷ rest) n is = numbers_are p rest (n + 1) (rest_after p.items n (defines e) rest is)
numbers_are p (kernel k e ∷ rest) n is =
    All-cons (IsKernelItem p) n (kernel_numbers (n + 1) rest) (k, e, head_there p.items n (kernel k e) rest is)
    (numbers_are p rest (n + 1) (rest_after p.items n (kernel k e) rest is))

pub numbered_tasks : (p : PureProgram) → Typable p → HasSmallTypes p → HasSmallKernels p → (numbers : List ℕ)
    → numbers ≡ kernel_numbers 0 p.items
    → All (IsTask p) numbers
numbered_tasks p typable small kernels numbers is = λ k d less.
    let whole : All (IsKernelItem p) numbers = subst (All (IsKernelItem p)) (sym is) (numbers_are p p.items 0 refl) in
    record { typable = typable; small = small; kernels = kernels; is_kernel = whole k d less }

-- what is built has a module that the cache answered
answered : (mode : Mode) (cache : CacheState) (k : KernelType) (o : ItemOutcome) → IfBuilt o (IsPlaced mode cache k)
    → IfBuilt o (λ c got. IsAnswered cache got)
answered mode cache k (Code t got) h = h.answered
answered mode cache k (Trap t) h = tt
answered mode cache k (Bound l) h = tt

pub all_answered : (mode : Mode) (names : List Value) (fuel : ℕ) (cache : CacheState) (items : List Definition)
    (outcomes : List ItemOutcome)
    → EachKernel (IsOutcomeOf mode names fuel cache) items outcomes
    → All (λ o. IfBuilt o (λ c got. IsAnswered cache got)) outcomes
all_answered mode names fuel cache items outcomes each =
    each_gives (IsOutcomeOf mode names fuel cache) (λ o. IfBuilt o (λ c got. IsAnswered cache got))
    (λ k e o h. answered mode cache k o h.placed) items outcomes each

-- what all works asked for is received where the receipts of each are
asked_received : (stored : List (Known Emitted)) (all : List Done) → All (HasAllSlots stored) all
    → All (λ (d : Done). AreAllReceived d.stored d.asked) all → AreAllReceived stored (asked_by all)
asked_received stored [] slots own = tt
asked_received stored (d ∷ all) slots own =
    both_received stored d.asked (asked_by all)
    (all_still_received d.stored stored (All-head (HasAllSlots stored) d all slots) d.asked
    (All-head (λ (d : Done). AreAllReceived d.stored d.asked) d all own))
    (asked_received stored all (All-tail (HasAllSlots stored) d all slots)
    (All-tail (λ (d : Done). AreAllReceived d.stored d.asked) d all own))

-- more receipts are of the same modules
receives_more : (some more : List (Known Emitted)) → ((slot : ℕ) → HasSlot some slot → HasSlot more slot)
    → (got : Got) → IsReceived some got → IsReceived more got
receives_more some more f (Loaded at) h = tt
receives_more some more f (Stored r) h = f r.slot h
receives_more some more f (Own n) h = λ k r here. f r.slot (h k r here)

received_more : (some more : List (Known Emitted)) → ((slot : ℕ) → HasSlot some slot → HasSlot more slot)
    → (o : ItemOutcome)
    → IfBuilt o (λ c got. IsReceived some got) → IfBuilt o (λ c got. IsReceived more got)
received_more some more f (Code t got) h = receives_more some more f got h
received_more some more f (Trap t) h = tt
received_more some more f (Bound l) h = tt

-- the runs of all kernel items among these are right
abbrev AreRight : Mode → List Value → ℕ → CacheState → List Definition → Type 0
AreRight mode names fuel cache items =
    (i : ℕ) (k : KernelType) (e : Expression) → slice_get items i ≡ Some (kernel k e)
    → AreRightRuns mode cache.load (runs mode names fuel e)

emitted_most : (mode : Mode) (names : List Value) (fuel : ℕ) (cache : CacheState) (items : List Definition)
    (all : List Done)
    → AreRight mode names fuel cache items → EachKernel (IsDone mode names fuel cache) items all
    → emitted_by all ≤ price_of_items mode names fuel cache.load items + unloaded_among (outcomes_of all)
emitted_most mode names fuel cache [] [] right each = omega arith
emitted_most mode names fuel cache [] (done ∷ all) right each = absurd each
emitted_most mode names fuel cache (defines e ∷ items) all right each =
    emitted_most mode names fuel cache items all (λ i k e here. right (suc i) k e here) each
emitted_most mode names fuel cache (kernel k e ∷ items) [] right each = absurd each
emitted_most mode names fuel cache (kernel k e ∷ items) (done ∷ all) right each =
    let one = each.0.emitted (right zero k e refl) in
    let rest = emitted_most mode names fuel cache items all (λ i k e here. right (suc i) k e here) each.1 in
    omega (arith, one, rest)

-- of the works on the kernel items with these numbers
module _ (mode : Mode) (p : PureProgram) (fuel : ℕ) (cache : CacheState) (numbers : List ℕ)
    (is : numbers ≡ kernel_numbers 0 p.items) (all : List Done)
    (done : AllZip (λ number done. IsDoneAt mode p fuel cache number done) numbers all) where
  abbrev names : List Value
  names = names_of_items p.items

  each_done : EachKernel (IsDone mode names fuel cache) p.items all
  each_done = each_kernel (IsDone mode names fuel cache) p.items all
      (subst (λ ns. AllZip (λ number done. IsDoneAt mode p fuel cache number done) ns all) is done)

  pub all_outcomes : (outcomes : List ItemOutcome) → outcomes ≡ outcomes_of all
      → AreOutcomesOf mode p fuel cache outcomes
  all_outcomes outcomes are =
      subst (AreOutcomesOf mode p fuel cache) (sym are)
      (each_mapped (IsDone mode names fuel cache) (IsOutcomeOf mode names fuel cache) (λ (d : Done). d.outcome)
      (λ k e d h. h.outcome) p.items all each_done)

  pub all_received : (outcomes : List ItemOutcome) (stored : List (Known Emitted)) → outcomes ≡ outcomes_of all
      → All (HasAllSlots stored) all
      → All (λ o. IfBuilt o (λ c got. IsReceived stored got)) outcomes
  all_received outcomes stored are slots =
      let own = each_gives (IsDone mode names fuel cache)
      (λ (d : Done). IfBuilt d.outcome (λ c got. IsReceived d.stored got))
      (λ k e d h. h.received) p.items all each_done in
      subst (All (λ o. IfBuilt o (λ c got. IsReceived stored got))) (sym are)
      (All-map (λ (o : ItemOutcome). IfBuilt o (λ c got. IsReceived stored got)) (λ (d : Done). d.outcome) all
      (λ k d less. received_more (get_or all k d).stored stored (slots k d less) (get_or all k d).outcome
      (own k d less)))

  pub all_asked : (stored : List (Known Emitted)) → All (HasAllSlots stored) all → AreAllReceived stored (asked_by all)
  all_asked stored slots = asked_received stored all slots
      (each_gives (IsDone mode names fuel cache) (λ (d : Done). AreAllReceived d.stored d.asked)
      (λ k e d h. h.asked) p.items all each_done)

  pub all_of_table : All (λ (d : Done). All (IsOf cache.cells) d.stored) all
  all_of_table = each_gives (IsDone mode names fuel cache) (λ (d : Done). All (IsOf cache.cells) d.stored)
      (λ k e d h. h.stored) p.items all each_done

  pub all_emitted : (outcomes : List ItemOutcome) (emitted : ℕ) → outcomes ≡ outcomes_of all
      → emitted ≤ emitted_by all
      → AreRightItems mode p fuel cache.load
      → emitted ≤ price_of_items mode names fuel cache.load p.items + unloaded_among outcomes
  all_emitted outcomes emitted are count right =
      let most = emitted_most mode names fuel cache p.items all right each_done in
      let same : unloaded_among outcomes ≡ unloaded_among (outcomes_of all) = ap unloaded_among are in
      omega (arith, most, same, count)
