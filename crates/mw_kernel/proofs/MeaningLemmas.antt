-- Answers are what the kernel means.
use Rattle.std.proofs.Common.{◌≡◌, ℕ, true, false, List, [], ◌∷◌, Some, Result, Ok, Err, refl, sym, ap, ◌∙◌, subst}
use Rattle.std.proofs.Common.{arith}
use Rattle.std.specs.Prelude.{codes}
use Rattle.std.specs.Int.{w64, cast_signed}
use Rattle.std.proofs.lemmas.Int.{to_z-of_z}
use Rattle.mw_term.specs.Terms.{Expression, KernelValue, GroundType, KernelType, PureGroundValue, base, product}
use Rattle.mw_term.specs.Terms.{of_ground, to, int, bool, both, ground_value, ground_value_of}
use Rattle.mw_term.specs.declared.term.Base.TheVariants.{Int, Bool as Truth}
use Rattle.mw_term.specs.declared.value.TrapKind.TheVariants as kind
use Rattle.mw_term.specs.declared.value.Limit.TheVariants.{Fuel, Heap}
use Rattle.mw_term.specs.Types.{ground_type, kernel_type}
use Rattle.mw_term.specs.Typable.{HasKernelType}
use Rattle.mw_term.specs.Typing.{Valued, v_pair}
use Rattle.mw_term.specs.Unlabelled.{unlabelled_value, IsClosedKernelValue}
use Rattle.mw_wasm.specs.declared.modules.Module.{Module}
use Rattle.mw_wasm.specs.declared.values.Trap.TheVariants as traps
use Rattle.mw_wasm.specs.declared.values.Value.TheVariants.{I64}
use Rattle.mw_wasm.specs.Execution.{End, ended, trapped, spent}
use Rattle.mw_wasm.specs.Instances.{exported, invoked}
use Rattle.mw_wasm.specs.Store.{Memory, Store}
use Rattle.mw_wasm.specs.Syntax.{PureModule}
use Rattle.mw_wasm.specs.Views.{module_of}
use Rattle.mw_meaning.specs.Arithmetic.{trap, bound}
use Rattle.mw_meaning.specs.KernelMeaning.{Ended, gives, stops, kernel_meaning}
use Rattle.mw_meaning.specs.GroundValues.{HasGroundType, IsArgument, kernel_value}
use Rattle.mw_meaning.specs.StagedMeaning.{kernel_argument, argument_words, call_of}
use Rattle.mw_meaning.specs.StandingFor.{IsWord, truth_number, AnswersAs, Call, AreCalls, IfEnded}
use Rattle.mw_meaning.specs.StandingFor.{CallsAnswer, CallsAfter, StandsFor}
use Rattle.mw_meaning.specs.Shapes.{IsWordOf, in_init}
use Rattle.mw_meaning.proofs.KernelTyping.{KernelSafe, Has, none, kernel_call_safe, safe_makes}
use Rattle.mw_meaning.proofs.GroundValues.{ground-typed}
use Rattle.mw_meaning.proofs.StrayModules.{word_of, answers_no_stray, kernel_safe, one_number, standing_is_not_stray}
use Rattle.mw_machine.specs.declared.kernels.Ran.{Ran}
use Rattle.mw_machine.specs.declared.kernels.Ran.TheVariants as ran
use Rattle.mw_kernel.specs.declared.fault.RunFault.{RunFault}
use Rattle.mw_kernel.specs.declared.fault.RunFault.TheVariants as fault
use Rattle.mw_kernel.specs.declared.running.Began.{Began}
use Rattle.mw_kernel.specs.declared.running.Began.TheVariants as began
use Rattle.mw_kernel.specs.RunningStates.{RunningState, IsRunnable, store_of}
use Rattle.mw_kernel.specs.KernelAnswers.{EndsWithValue, EndsByTrap, EndsAtBound, IsKeptAs, IsBeganAs}
use Rattle.mw_kernel.specs.KernelAnswers.{IsStartOf, IsCallOf, AnswersStart, AnswersCall, call_end, IsStoreAfter}
use Rattle.mw_kernel.specs.KernelAnswers.{StoreAfterCall, IsSameFunction, FitsWords, FitsUnlessMemory}
use Rattle.mw_kernel.specs.KernelMeanings.{IsSameValue, Keeps, IsBeganFrom, IsRanFrom, IsStartMeant, IsCallMeant}
use Rattle.mw_kernel.specs.KernelMeanings.{MeansStart, MeansCall, KeepsOn, ShortIntegersAreKept}
use Rattle.mw_kernel.proofs.WordEnds.{is_argument}

-- one word is that of one value of the type
same_truth : (b c : _) (n : ℕ) → n ≡ truth_number c → n ≡ truth_number b → c ≡ b
same_truth true true n e f = refl
same_truth false false n e f = refl
same_truth true false n e f = absurd (omega arith)
same_truth false true n e f = absurd (omega arith)

same_value : (t : GroundType) (v : PureGroundValue) (w : KernelValue) (n : ℕ) (memory : Memory) → HasGroundType t v
    → IsArgument t (ground_value v) → Valued [] [] (unlabelled_value w) (ground_type t)
    → IsWord (kernel_value v) n memory → IsWord w n memory → IsSameValue w v
same_value (base Int) (int z) (int y) n memory h f p e g = sym (to_z-of_z w64 z f) ∙ ap (λ k. cast_signed w64 k)
    (sym e ∙ g)
same_value (base Int) (int z) w n memory h f p e g = elim p [ ]
same_value (base Truth) (bool c) (bool b) n memory h f p e g = same_truth b c n e g
same_value (base Truth) (bool c) w n memory h f p e g = elim p [ ]
same_value (product s t) (both v x) (both u w) n memory h f (v_pair p q) e g =
    (same_value s v u _ memory h.0 f.0 p e.1 g.1, same_value t x w _ memory h.1 f.1 q e.2 g.2)
same_value (product s t) (both v x) w n memory h f p e g = elim p [ ]
same_value _ v w n memory h f p e g = absurd h

-- what answers as a kernel does, by how it ends
pub record IsGiven (a : Ended) (n units : ℕ) (memory : Memory) : Type 0 where
  pub value : KernelValue
  pub words : ℕ
  pub is : a ≡ gives value units words
  pub word : IsWord value n memory

given : (a : Ended) (st : Store) (n units : ℕ) → AnswersAs a (ended st (I64 n ∷ []) units) → IsGiven a n units st.memory
given (gives v left words) st n units h =
    record { value = v; words = words; is = rw h.1 refl; word = subst (λ k. IsWord v k st.memory) (same h.0.1) h.0.2 }
  where
    same : {j k : ℕ} → I64 j ∷ [] ≡ I64 k ∷ [] → k ≡ j
    same e = cc
given (stops (trap kind.Divide)) st n units h = absurd h
given (stops (bound Heap)) st n units h = absurd h
given a st n units h = absurd h

divides : (a : Ended) (st : Store) → AnswersAs a (trapped traps.Divide st) → a ≡ stops (trap kind.Divide)
divides (stops (trap kind.Divide)) st h = refl
divides (stops (bound Heap)) st h = absurd h
divides a st h = absurd h

overflows : (a : Ended) (st : Store) → AnswersAs a (trapped traps.Overflow st) → a ≡ stops (trap kind.Overflow)
overflows (stops (trap kind.Overflow)) st h = refl
overflows (stops (bound Heap)) st h = absurd h
overflows a st h = absurd h

overruns : (a : Ended) (st : Store) → AnswersAs a (trapped traps.OutOfBounds st) → a ≡ stops (bound Heap)
overruns (stops (trap kind.Divide)) st h = absurd h
overruns (stops (bound Heap)) st h = refl
overruns a st h = absurd h

spends : (a : Ended) → AnswersAs a spent → a ≡ stops (bound Fuel)
spends (stops (trap kind.Divide)) h = absurd h
spends (stops (bound Fuel)) h = refl
spends a h = absurd h

by_trap : (k : _) (a : Ended) (e : End) → AnswersAs a e → EndsByTrap k e → a ≡ stops (trap k)
by_trap kind.Divide a (trapped traps.Divide st) h x = divides a st h
by_trap kind.Overflow a (trapped traps.Overflow st) h x = overflows a st h
by_trap _ a _ h x = absurd x

at_bound : (l : _) (a : Ended) (e : End) → AnswersAs a e → EndsAtBound l e → a ≡ stops (bound l)
at_bound Heap a (trapped traps.OutOfBounds st) h x = overruns a st h
at_bound Fuel a spent h x = spends a h
at_bound _ a _ h x = absurd x

-- a value that is given is the kernel's
value_meant : (t : GroundType) (v : PureGroundValue) (left : ℕ) (a : Ended) (e : End) (n : ℕ)
    → KernelSafe n (Has [] [] none (ground_type t)) a → EndsWithValue t v left e → AnswersAs a e
    → (w : KernelValue) × (words : ℕ) × (a ≡ gives w left words) × IsSameValue w v
value_meant t v left a (ended st (I64 n ∷ []) units) k safe h x =
    let g = given a st n units x in
    let s = subst (KernelSafe k (Has [] [] none (ground_type t))) g.is safe in (
      g.value,
      g.words,
      g.is ∙ ap (λ k. gives g.value k g.words) (sym h.1),
      same_value t v g.value n st.memory
          h.0.has_type h.0.fits s.is.1.1 h.0.is_word g.word,
    )
value_meant t v left a e k safe h x = absurd h

-- calls on what is kept are those on the store that `init` left
keeps_as : (wasm : Module) (st : Store) (n : ℕ) (s t : GroundType) (r : RunningState) (f : KernelValue) (words : ℕ)
    → IsKeptAs wasm st n s t r → IsClosedKernelValue f → Valued [] [] (unlabelled_value f) (kernel_type (to s t))
    → ((g : ℕ) → exported (module_of wasm) (codes "call") ≡ Some g → (calls : List Call) → AreCalls s calls
    → CallsAnswer (module_of wasm) g n f words calls st) → Keeps r f words
keeps_as wasm st n s t r f words h shut typed calls = record {
  closed = shut;
  typed = subst (λ t. Valued [] [] (unlabelled_value f) (kernel_type (to r.argument t))) (sym h.result_is)
      (subst (λ s. Valued [] [] (unlabelled_value f) (kernel_type (to s t))) (sym h.argument_is) typed);
  calls = λ g e cs are.
      subst (λ w. CallsAnswer (module_of w) g r.function f words cs (store_of r)) (sym h.wasm_is)
      (subst (λ n. CallsAnswer (module_of wasm) g n f words cs (store_of r)) (sym h.function_is)
      (subst (λ st. CallsAnswer (module_of wasm) g n f words cs st) (sym h.store_is)
      (calls g (subst (λ w. exported (module_of w) (codes "call") ≡ Some g) h.wasm_is e) cs
      (subst (λ s. AreCalls s cs) h.argument_is are))));
}

-- the calls that follow an `init` which ended with a word
module _ (wasm : Module) (s t : GroundType) (units f : ℕ)
    (there : exported (module_of wasm) (codes "call") ≡ Some f) where
  function_meant : (r : RunningState) (left : ℕ) (e : End) (a : Ended)
      → KernelSafe units (Has [] [] none (kernel_type (to s t))) a → IsBeganAs wasm (to s t) (began.Function r left) e
      → AnswersAs a e
      → ((calls : List Call) → AreCalls s calls → CallsAfter (module_of wasm) f a e calls)
      → IsBeganFrom (to s t) (began.Function r left) a
  function_meant r left (ended st (I64 n ∷ []) l) (gives v u words) safe h x after = (
    keeps_as wasm st n s t r v words h.0 safe.is.1.0 safe.is.1.1
        (λ g e cs are. subst (λ g. CallsAnswer (module_of wasm) g n v words cs st)
        (one_number (module_of wasm) (codes "call") e there) (after cs are)),
    h.1 ∙ x.1,
  )
  function_meant r left (ended st (I64 n ∷ []) l) (stops w) safe h x after = let g = given (stops w) st n l x in let p =
      g.is in absurd (cc)
  function_meant r left e a safe h x after = absurd h

-- a start of a module that stands for the code
module _ (wasm : Module) (c : Expression) (units : ℕ) where
  began_meant : (k : KernelType) (answer : Result Began RunFault) (typed : HasKernelType c k)
      (stands : StandsFor (module_of wasm) c k)
      → IsStartOf answer wasm k (invoked (module_of wasm) stands.store (stands.means typed).init [] units)
      → IsStartMeant answer k (kernel_meaning units 0 c)
  began_meant (of_ground t) (Ok (began.Value v left)) typed stands h =
      let g = value_meant t (ground_value_of v) left _ _ units (kernel_safe c (of_ground t) units typed) h
      ((stands.means typed).run units) in
      subst (λ a. IsBeganFrom (of_ground t) (began.Value v left) a) (sym g.2) (g.3, refl)
  began_meant (to s t) (Ok (began.Function r left)) typed stands h =
      let means = stands.means typed in
      function_meant wasm s t units means.calls.0 means.calls.1 r left _ _ (kernel_safe c (to s t) units typed) h
      (means.run units) (λ cs are. means.calls.2 units cs are)
  began_meant (of_ground t) (Ok (began.Function r left)) typed stands h = absurd h
  began_meant (to s t) (Ok (began.Value v left)) typed stands h = absurd h
  began_meant (of_ground t) (Ok (began.Trap u)) typed stands h =
      rw (by_trap u _ _ ((stands.means typed).run units) h) refl
  began_meant (of_ground t) (Ok (began.Bound l)) typed stands h =
      rw (at_bound l _ _ ((stands.means typed).run units) h) refl
  began_meant (to s t) (Ok (began.Trap u)) typed stands h =
      rw (by_trap u _ _ ((stands.means typed).run units) h) refl
  began_meant (to s t) (Ok (began.Bound l)) typed stands h =
      rw (at_bound l _ _ ((stands.means typed).run units) h) refl
  began_meant k (Err fault.Bad) typed stands h = standing_is_not_stray (module_of wasm) c k stands typed
      (in_init units stands.has_instance (stands.means typed).is_init h)
  began_meant k (Err (fault.Memory f)) typed stands h = tt

pub start_meant : (answer : Result Began RunFault) (wasm : Module) (k : KernelType) (units : ℕ)
    → AnswersStart answer wasm k units → MeansStart answer wasm k units
start_meant answer wasm k units h c typed stands = began_meant wasm c units k answer typed stands
    (h stands.store (stands.means typed).init stands.has_instance (stands.means typed).is_init)

-- a call of what is kept
module _ (r : RunningState) (runnable : IsRunnable r) (v : PureGroundValue) (has : HasGroundType r.argument v)
    (units : ℕ) (f : KernelValue) (words : ℕ) (keeps : Keeps r f words) where
  m : PureModule
  m = module_of r.wasm

  abbrev a : Ended
  a = call_of f words (kernel_argument (ground_value v)) (argument_words (ground_value v)) units

  abbrev this : Call
  this = record { argument = ground_value v; units = units }

  first_answer : FitsWords v → AnswersAs a (call_end r runnable.call.index v units)
  first_answer fits =
      (keeps.calls runnable.call.index runnable.call.is_exported (this ∷ []) (is_argument r.argument v has fits, tt)).0

  safe : FitsWords v → KernelSafe units (Has [] [] none (ground_type r.result)) a
  safe fits = kernel_call_safe [] [] none r.argument r.result f words (ground_value v) units [] keeps.closed keeps.typed
      (ground-typed _ r.argument (ground_value v) (is_argument r.argument v has fits))

  at_answer : (answer : Result Ran RunFault) → FitsUnlessMemory answer v
      → IsCallOf answer r.result (call_end r runnable.call.index v units) → IsCallMeant answer a
  at_answer (Ok (ran.Value x left)) fits h =
      let g = value_meant r.result (ground_value_of x) left _ _ units (safe fits) h (first_answer fits) in
      subst (λ a. IsRanFrom (ran.Value x left) a) (sym g.2) (g.3, refl)
  at_answer (Ok (ran.Function i left)) fits h = absurd h
  at_answer (Ok (ran.Trap k)) fits h = subst (λ a. IsRanFrom (ran.Trap k) a) (sym (by_trap k _ _ (first_answer fits) h))
      refl
  at_answer (Ok (ran.Bound l)) fits h = subst (λ a. IsRanFrom (ran.Bound l) a)
      (sym (at_bound l _ _ (first_answer fits) h)) refl
  at_answer (Err fault.Bad) fits h = answers_no_stray (IsWordOf r.result) _ _
      (safe_makes (λ v p n memory. word_of r.result v n memory p.1) (safe fits)) (first_answer fits) h
  at_answer (Err (fault.Memory e)) fits h = tt

pub call_meant : (answer : Result Ran RunFault) (r : RunningState) (v : PureGroundValue) (units : ℕ) → IsRunnable r
    → HasGroundType r.argument v → FitsUnlessMemory answer v → AnswersCall answer r v units → MeansCall answer r v units
call_meant answer r v units runnable has fits h f words keeps = at_answer r runnable v has units f words keeps answer
    fits (h runnable.call.index runnable.call.is_exported)

-- and after a value it is kept
onward : (t : GroundType) (v : PureGroundValue) (left : ℕ) (e : End) (after : Store) (P : Store → Type 0)
    → EndsWithValue t v left e → IsStoreAfter e after → IfEnded e P → P after
onward t v left (ended st (I64 n ∷ []) units) after P h s o = subst P (sym s) o
onward t v left e after P h s o = absurd h

pub kept_on : (answer : Result Ran RunFault) (old new : RunningState) (v : PureGroundValue) (units : ℕ)
    → HasGroundType old.argument v → FitsUnlessMemory answer v → AnswersCall answer old v units
    → StoreAfterCall answer old new v units → IsSameFunction old new
    → KeepsOn answer old new
kept_on (Ok (ran.Value x left)) old new v units has fits h after same = λ f words keeps.
    keeps_as old.wasm (store_of new) old.function old.argument old.result new f words
    record {
      wasm_is = same.wasm_is;
      store_is = refl;
      function_is = same.function_is;
      argument_is = same.argument_is;
      result_is = same.result_is;
    } keeps.closed keeps.typed
    (λ g e cs are. onward old.result (ground_value_of x) left (call_end old g v units) (store_of new)
    (CallsAnswer (module_of old.wasm) g old.function f words cs) (h g e) (after g e)
    (keeps.calls g e (record { argument = ground_value v; units = units } ∷ cs)
    (is_argument old.argument v has fits, are)).1)
kept_on answer old new v units has fits h after same = tt

pub short_integers_are_kept : ShortIntegersAreKept
short_integers_are_kept (int y) (int z) h e = ap (λ z. int z) (e ∙ to_z-of_z w64 y h)
short_integers_are_kept (bool b) (bool c) h e = ap (λ b. bool b) e
short_integers_are_kept (both v w) (both x y) h e =
    rw (short_integers_are_kept v x h.0 e.0, short_integers_are_kept w y h.1 e.1) refl
short_integers_are_kept v w h e = absurd e
