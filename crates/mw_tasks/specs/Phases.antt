-- What the phase of the kernel items gives, and main after it.
use Rattle.std.specs.Prelude.{ℕ, ◌≡◌, ◌≤◌, ◌+◌, ◌↔◌, List, [], ◌∷◌, ◌++◌, true, Some, slice_get}
use Rattle.std.specs.List.{All}
use Rattle.mw_term.specs.Terms.{Expression, KernelType, Value, expression_of}
use Rattle.mw_term.specs.Limits.{within_limits, kernel_nodes}
use Rattle.mw_term.specs.Programs.{Definition, value as defines, kernel, PureProgram}
use Rattle.mw_term.specs.SmallTypes.{HasSmallTypes}
use Rattle.mw_term.specs.Typable.{Typable, HasKernelType}
use Rattle.mw_meaning.specs.declared.mode.Mode.{Mode}
use Rattle.mw_meaning.specs.Simplification.{in_mode}
use Rattle.mw_meaning.specs.StagedMeaning.{runs}
use Rattle.mw_meaning.specs.Outcomes.{Outcome, came_to, trapped, bounded, item_outcome, names_of_items}
use Rattle.mw_machine.specs.KernelCalls.{prices}
use Rattle.mw_slots.specs.Receipts.{IsOf}
use Rattle.mw_key.specs.CanonicalText.{IsTextOf, canonical_text}
use Rattle.mw_key.specs.declared.version.Version.TheVariants.{Two}
use Rattle.mw_store.specs.Loads.{LoadState}
use Rattle.mw_cache.specs.Gots.{CacheState, text_in, loaded_texts, IsHere, IsAnswered, IsLoadedGot, IsLoadedText}
use Rattle.mw_cache.specs.Gots.{HaveOneSlot}
use Rattle.mw_cache.specs.Hints.{price_beside}
use Rattle.mw_cache.specs.Received.{IsReceived, AreAllReceived}
use Rattle.mw_cache.specs.declared.got.Got.{Got}
use Rattle.mw_cache.specs.declared.got.Got.TheVariants.{Loaded, Stored, Own}
use Rattle.mw_tasks.specs.declared.job.Done.{Done}
use Rattle.mw_tasks.specs.declared.outcome.ItemOutcome.{ItemOutcome}
use Rattle.mw_tasks.specs.declared.outcome.ItemOutcome.TheVariants.{Code, Trap, Bound}
use Rattle.mw_tasks.specs.RightRuns.{AreRightRuns, unloaded_price}
use Rattle.mw_tasks.specs.TaskOutcomes.{IsKernelItem}

-- each written kernel type has at most 10,000 nodes
abbrev pub HasSmallKernels : PureProgram → Type 0
HasSmallKernels p = (i : ℕ) (k : KernelType) (e : Expression) → slice_get p.items i ≡ Some (kernel k e)
    → kernel_nodes k ≤ 10000

-- the outcome is the meaning's: its code, its trap or its bound
abbrev pub Answers : ItemOutcome → Outcome Expression → Type 0
Answers (Code t got) (came_to c) = expression_of t ≡ c
Answers (Trap t) (trapped u) = t ≡ u
Answers (Bound l) (bounded b) = l ≡ b
Answers _ _ = ⊥

-- P holds of the code, and of where its module is, if the item gave code
abbrev pub IfBuilt : ItemOutcome → (Expression → Got → Type 0) → Type 0
IfBuilt (Code t got) P = P (expression_of t) got
IfBuilt _ P = Unit {0}

-- Closed code of the kernel type, within the limits. The module is that of what is run of it in the mode, and is of
-- this cache: a loaded record just where one of the text was loaded.
pub record IsPlaced (mode : Mode) (cache : CacheState) (k : KernelType) (c : Expression) (got : Got) : Type 0 where
  pub typed : HasKernelType c k
  pub limits : within_limits c ≡ true
  pub text : IsTextOf (text_in cache got) Two (in_mode mode c) k
  pub loaded : IsLoadedGot got ↔ IsLoadedText cache.load (text_in cache got)
  pub here : IsHere cache got
  pub answered : IsAnswered cache got

-- What a kernel item of this type and term came to: what it means, where all runs are right that it begins. What stands
-- in the cache's table, and who put it there, doesn't matter.
pub record IsOutcomeOf (mode : Mode) (names : List Value) (fuel : ℕ) (cache : CacheState) (k : KernelType)
    (e : Expression) (o : ItemOutcome) : Type 0 where
  pub means : AreRightRuns mode cache.load (runs mode names fuel e) → Answers o (item_outcome mode names fuel e)
  pub placed : IfBuilt o (IsPlaced mode cache k)

-- R holds of each kernel item's type and term and of what stands for it in the list, in order
abbrev pub EachKernel : {X : Type 0} → (KernelType → Expression → X → Type 0) → List Definition → List X → Type 0
EachKernel R [] [] = Unit {0}
EachKernel R [] (x ∷ xs) = ⊥
EachKernel R (defines e ∷ items) xs = EachKernel R items xs
EachKernel R (kernel k e ∷ items) [] = ⊥
EachKernel R (kernel k e ∷ items) (x ∷ xs) = R k e x × EachKernel R items xs

-- the outcomes of the kernel items of a program, all of them, in order, each with so many units
abbrev pub AreOutcomesOf : Mode → PureProgram → ℕ → CacheState → List ItemOutcome → Type 0
AreOutcomesOf mode p fuel cache outcomes = EachKernel
    (IsOutcomeOf mode (names_of_items p.items) fuel cache) p.items outcomes

-- where two of them are of one text, and both modules are in the table, they are in one slot
abbrev pub HaveOneModule : ItemOutcome → ItemOutcome → Type 0
HaveOneModule (Code c got) (Code d other) = HaveOneSlot got other
HaveOneModule _ _ = Unit {0}

abbrev pub AllHaveOneModule : List ItemOutcome → Type 0
AllHaveOneModule outcomes =
    (i j : ℕ) (a b : ItemOutcome) → slice_get outcomes i ≡ Some a → slice_get outcomes j ≡ Some b → HaveOneModule a b

-- how many of them are code whose module isn't a loaded record
abbrev pub is_unloaded : ItemOutcome → ℕ
is_unloaded (Code t (Loaded at)) = 0
is_unloaded (Code t (Stored r)) = 1
is_unloaded (Code t (Own n)) = 1
is_unloaded (Trap t) = 0
is_unloaded (Bound l) = 0

abbrev pub unloaded_among : List ItemOutcome → ℕ
unloaded_among [] = 0
unloaded_among (o ∷ outcomes) = is_unloaded o + unloaded_among outcomes

-- all gave code
abbrev pub AreBuiltAll : List ItemOutcome → Type 0
AreBuiltAll [] = Unit {0}
AreBuiltAll (Code t got ∷ outcomes) = AreBuiltAll outcomes
AreBuiltAll (_ ∷ outcomes) = ⊥

-- the codes, in order
abbrev pub codes_in : List ItemOutcome → List Expression
codes_in [] = []
codes_in (Code t got ∷ outcomes) = expression_of t ∷ codes_in outcomes
codes_in (_ ∷ outcomes) = codes_in outcomes

-- the texts whose modules stand in the table
abbrev pub stored_text : Got → List (List ℕ)
stored_text (Loaded at) = []
stored_text (Stored r) = r.entry.text ∷ []
stored_text (Own n) = []

abbrev pub stored_texts : List ItemOutcome → List (List ℕ)
stored_texts [] = []
stored_texts (Code t got ∷ outcomes) = stored_text got ++ stored_texts outcomes
stored_texts (_ ∷ outcomes) = stored_texts outcomes

-- How many emissions a run of code costs main at most: none where it is of a text that was loaded, or that a kernel
-- item has in the table.
abbrev pub main_price : Mode → LoadState → List ItemOutcome → Expression → KernelType → ℕ
main_price mode load outcomes c k =
    price_beside (stored_texts outcomes ++ loaded_texts load) (canonical_text Two (in_mode mode c) k)

-- a typable program with small types has a kernel item of this number
pub record IsTask (p : PureProgram) (number : ℕ) : Type 0 where
  pub typable : Typable p
  pub small : HasSmallTypes p
  pub kernels : HasSmallKernels p
  pub is_kernel : IsKernelItem p number

-- What the work on a kernel item gave: its outcome, receipts of all modules that it asked for, and the count of its
-- emissions.
pub record IsDone (mode : Mode) (names : List Value) (fuel : ℕ) (cache : CacheState) (k : KernelType) (e : Expression)
    (done : Done) : Type 0 where
  pub outcome : IsOutcomeOf mode names fuel cache k e done.outcome
  pub stored : All (IsOf cache.cells) done.stored
  pub received : IfBuilt done.outcome (λ c got. IsReceived done.stored got)
  pub asked : AreAllReceived done.stored done.asked
  pub emitted : AreRightRuns mode cache.load (runs mode names fuel e)
      → done.emitted ≤ prices (unloaded_price mode cache.load) (runs mode names fuel e) + is_unloaded done.outcome

-- that on the item of this number
abbrev pub IsDoneAt : Mode → PureProgram → ℕ → CacheState → ℕ → Done → Type 0
IsDoneAt mode p fuel cache number done =
    (k : KernelType) (e : Expression) → slice_get p.items number ≡ Some (kernel k e)
    → IsDone mode (names_of_items p.items) fuel cache k e done

-- the numbers of the kernel items, the first item having this number
abbrev pub kernel_numbers : ℕ → List Definition → List ℕ
kernel_numbers n [] = []
kernel_numbers n (defines e ∷ items) = kernel_numbers (n + 1) items
kernel_numbers n (kernel k e ∷ items) = n ∷ kernel_numbers (n + 1) items
