-- A module that stands for code of its kernel type is not stray.
use Rattle.std.proofs.Common.{◌≡◌, ℕ, inl, inr, true, false, List, [], ◌∷◌, Some, Ok, refl, subst, arith, length-append}
use Rattle.std.specs.Prelude.{codes}
use Rattle.mw_term.specs.Terms.{Expression, KernelValue, GroundType, KernelType, base, product, of_ground, to}
use Rattle.mw_term.specs.Terms.{int, bool, both}
use Rattle.mw_term.specs.declared.term.Base.TheVariants.{Int, Bool as Truth}
use Rattle.mw_term.specs.declared.value.TrapKind.TheVariants as kind
use Rattle.mw_term.specs.declared.value.Limit.TheVariants.{Fuel, Heap}
use Rattle.mw_term.specs.Types.{ground_type, kernel_type}
use Rattle.mw_term.specs.Unlabelled.{unlabelled_value, IsClosedKernelValue}
use Rattle.mw_term.specs.Typing.{Valued, v_pair}
use Rattle.mw_term.specs.Typable.{HasKernelType}
use Rattle.mw_wasm.specs.declared.values.Value.TheVariants.{I64}
use Rattle.mw_wasm.specs.declared.values.Trap.TheVariants as traps
use Rattle.mw_wasm.specs.Syntax.{PureModule}
use Rattle.mw_wasm.specs.Store.{Memory, Store}
use Rattle.mw_wasm.specs.Execution.{End, ended, trapped, spent}
use Rattle.mw_wasm.specs.Instances.{exported, instantiated, invoked}
use Rattle.mw_meaning.specs.Arithmetic.{trap, bound}
use Rattle.mw_meaning.specs.KernelMeaning.{Ended, gives, stops, kernel_meaning}
use Rattle.mw_meaning.specs.StagedMeaning.{kernel_argument, argument_words, call_of}
use Rattle.mw_meaning.specs.TypingLaws.{IfMakes}
use Rattle.mw_meaning.specs.StandingFor.{IsWord, AnswersAs, leaves, Call, AreCalls, IfEnded, CallsAnswer, CallsAfter}
use Rattle.mw_meaning.specs.StandingFor.{MeansKernel}
use Rattle.mw_meaning.specs.GroundValues.{IsArgument}
use Rattle.mw_meaning.specs.Shapes.{IsWordOf, IsWordOfKernel, IsStrayEnd, EndStray, here, later, in_init, in_call}
use Rattle.mw_meaning.specs.ShapeLaws.{StandingIsNotStray, LeavesAreCounted}
use Rattle.mw_meaning.proofs.GroundValues.{ground-typed}
use Rattle.mw_meaning.proofs.KernelTyping.{KernelSafe, Has, none, closed_code_safe, kernel_call_safe, safe_makes}

-- the word of a value of a ground type may be one of the type
pub word_of : (t : GroundType) (v : KernelValue) (n : ℕ) (memory : Memory) → Valued [] [] (unlabelled_value v)
    (ground_type t) → IsWord v n memory → IsWordOf t n memory
word_of (base Int) v n memory h w = tt
word_of (base Truth) (bool true) n memory h w = inr w
word_of (base Truth) (bool false) n memory h w = inl w
word_of (product s t) (both u v) n memory (v_pair x y) w = (w.0, word_of s u _ memory x w.1, word_of t v _ memory y w.2)
word_of _ _ n memory h w = elim h [ ]

word_of_kernel : (k : KernelType) (v : KernelValue) (n : ℕ) (memory : Memory) → Valued [] [] (unlabelled_value v)
    (kernel_type k) → IsWord v n memory → IsWordOfKernel k n memory
word_of_kernel (of_ground t) v n memory h w = word_of t v n memory h w
word_of_kernel (to s t) v n memory h w = tt

-- what answers as a kernel does doesn't end strayly, where the words of the kernel's values have P
abbrev pub Words : (ℕ → Memory → Type 0) → KernelValue → Type 0
Words P v = (n : ℕ) (memory : Memory) → IsWord v n memory → P n memory

pub answers_no_stray : (P : ℕ → Memory → Type 0) (a : Ended) (e : End) → IfMakes (Words P) a → AnswersAs a e
    → IsStrayEnd P e → ⊥
answers_no_stray P (gives v left words) (ended st vs units) f h x = let y =
    subst (λ vs. IsStrayEnd P (ended st vs units)) h.0.1 x in y (f h.0.0 st.memory h.0.2)
answers_no_stray P (stops (trap kind.Divide)) (trapped traps.Divide st) f h x = x
answers_no_stray P (stops (trap kind.Overflow)) (trapped traps.Overflow st) f h x = x
answers_no_stray P (stops (bound Heap)) (trapped traps.OutOfBounds st) f h x = x
answers_no_stray P (stops (bound Fuel)) spent f h x = x
answers_no_stray P _ _ f h x = absurd h

module _ (m : PureModule) (s t : GroundType) (f : KernelValue) (words : ℕ) (shut : IsClosedKernelValue f)
    (typed : Valued [] [] (unlabelled_value f) (kernel_type (to s t))) (g r : ℕ) where
  call_words : (c : Call) → IsArgument s c.argument
      → IfMakes (Words (IsWordOf t)) (call_of f words (kernel_argument c.argument) (argument_words c.argument) c.units)
  call_words c h = safe_makes (λ v p n memory. word_of t v n memory p.1)
      (kernel_call_safe [] [] none s t f words c.argument c.units [] shut typed (ground-typed _ s c.argument h))

  calls_no_stray : (calls : List Call) (st : Store) → AreCalls s calls → CallsAnswer m g r f words calls st
      → EndStray m g r t calls st → ⊥
  calls_no_stray [] st h a x = elim x [ ]
  calls_no_stray (c ∷ calls) st h a (here x) = answers_no_stray (IsWordOf t) _ _ (call_words c h.0) a.0 x
  calls_no_stray (c ∷ calls) st h a (later {after = after} e x) =
      calls_no_stray calls after h.1 (subst (λ e. IfEnded e (CallsAnswer m g r f words calls)) e a.1) x

-- the calls after an `init` that ended with a word
after_no_stray : (m : PureModule) (s t : GroundType) (g r n left : ℕ) (calls : List Call) (st : Store) (a : Ended)
    → KernelSafe n (Has [] [] none (kernel_type (to s t))) a → AnswersAs a (ended st (I64 r ∷ []) left)
    → CallsAfter m g a (ended st (I64 r ∷ []) left) calls → AreCalls s calls → EndStray m g r t calls st → ⊥
after_no_stray m s t g r n left calls st (gives f units words) safe a after h x =
    calls_no_stray m s t f words safe.is.1.0 safe.is.1.1 g r calls st h after x
after_no_stray m s t g r n left calls st (stops (trap kind.Divide)) safe a after h x = a
after_no_stray m s t g r n left calls st (stops (bound Fuel)) safe a after h x = a
after_no_stray m s t g r n left calls st _ safe a after h x = a

pub kernel_safe : (c : Expression) (k : KernelType) (n : ℕ) → HasKernelType c k
    → KernelSafe n (Has [] [] none (kernel_type k)) (kernel_meaning n 0 c)
kernel_safe c k n h = closed_code_safe c 0 (kernel_type k) n 0 h.is_code h.typed

-- a module has one instance, and a name one number
one_store : (m : PureModule) {st after : Store} → instantiated m ≡ Ok st → instantiated m ≡ Ok after → after ≡ st
one_store m e f = cc

pub one_number : (m : PureModule) (name : List ℕ) {f g : ℕ} → exported m name ≡ Some f → exported m name ≡ Some g
    → g ≡ f
one_number m name e f = cc

pub standing_is_not_stray : StandingIsNotStray
standing_is_not_stray m c k stands h (in_init {st = st} {f = f} n x y z) =
    let means : MeansKernel m c k stands.store = stands.means h in
    let e : st ≡ stands.store = one_store m stands.has_instance x in
    let i : f ≡ means.init = one_number m (codes "init") means.is_init y in
    answers_no_stray (IsWordOfKernel k) (kernel_meaning n 0 c) (invoked m stands.store means.init [] n)
    (safe_makes (λ v p n memory. word_of_kernel k v n memory p.1) (kernel_safe c k n h)) (means.run n)
    (subst (λ s. IsStrayEnd (IsWordOfKernel k) (invoked m s means.init [] n)) e
    (subst (λ i. IsStrayEnd (IsWordOfKernel k) (invoked m st i [] n)) i z))
standing_is_not_stray m c _ stands h (in_call {s = s} {t = t} {st = st} {after = after} {f = f} {g = g} {r = r}
    {left = left} {calls = calls} n x y z a u w) =
    let means : MeansKernel m c (to s t) stands.store = stands.means h in
    let e : st ≡ stands.store = one_store m stands.has_instance x in
    let i : f ≡ means.init = one_number m (codes "init") means.is_init y in
    let j : g ≡ means.calls.0 = one_number m (codes "call") means.calls.1 z in
    let q : invoked m stands.store means.init [] n ≡ ended after (I64 r ∷ []) left =
    subst (λ s. invoked m s means.init [] n ≡ ended after (I64 r ∷ []) left) e
    (subst (λ i. invoked m st i [] n ≡ ended after (I64 r ∷ []) left) i u) in
    after_no_stray m s t means.calls.0 r n left calls after (kernel_meaning n 0 c) (kernel_safe c (to s t) n h)
    (subst (AnswersAs (kernel_meaning n 0 c)) q (means.run n))
    (subst (λ d. CallsAfter m means.calls.0 (kernel_meaning n 0 c) d calls) q (means.calls.2 n calls a)) a
    (subst (λ g. EndStray m g r t calls after) j w)

pub leaves_are_counted : LeavesAreCounted
leaves_are_counted (base Int) (int z) h = refl
leaves_are_counted (base Truth) (bool b) h = refl
leaves_are_counted (product s t) (both v w) h =
    omega (arith, length-append (leaves v) (leaves w), leaves_are_counted s v h.0, leaves_are_counted t w h.1)
leaves_are_counted _ _ h = absurd h
