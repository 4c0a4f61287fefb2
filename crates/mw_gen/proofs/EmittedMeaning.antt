-- An emitted module stands for its code and kernel type.
use Rattle.std.proofs.Common.{◌≡◌, ℕ, suc, List, [], ◌∷◌, length, Some, refl, subst, sym}
use Rattle.std.specs.Prelude.{ℤ, ◌*◌, slice_get, map}
use Rattle.mw_term.specs.declared.value.TrapKind.TheVariants as kind
use Rattle.mw_term.specs.declared.value.Limit.TheVariants.{Fuel, Heap, KernelSize}
use Rattle.mw_term.specs.Terms.{Expression, KernelValue, Value, GroundType, KernelType, of_ground, to}
use Rattle.mw_term.specs.Types.{kernel_type}
use Rattle.mw_term.specs.Typable.{HasKernelType}
use Rattle.mw_meaning.specs.Arithmetic.{Reason, trap, bound, stuck}
use Rattle.mw_meaning.specs.KernelMeaning as k
use Rattle.mw_meaning.specs.KernelMeaning.{kernel_meaning}
use Rattle.mw_meaning.specs.StagedMeaning.{kernel_argument, argument_words, call_of}
use Rattle.mw_meaning.specs.StandingFor.{AnswersAs, Call, AreCalls, IfEnded, CallsAnswer, CallsAfter, CallsMean}
use Rattle.mw_meaning.specs.StandingFor.{StandsFor}
use Rattle.mw_meaning.specs.GroundValues.{IsArgument}
use Rattle.mw_meaning.specs.TypingLaws.{KernelIsNotStuck}
use Rattle.mw_meaning.proofs.GroundValues.{ground-typed}
use Rattle.mw_meaning.proofs.KernelTyping.{none, Has as TypedValue, KernelSafe, closed_code_safe, kernel_call_safe}
use Rattle.mw_meaning.proofs.KernelTyping.{kernel_meaning_never_stuck}
use Rattle.mw_wasm.specs.Syntax.{PureModule}
use Rattle.mw_wasm.specs.Store.{Memory, Store}
use Rattle.mw_wasm.specs.Instances.{invoked}
use Rattle.mw_wasm.specs.Execution.{End}
use Rattle.mw_ir.specs.declared.place.Place.TheVariants.{Argument}
use Rattle.mw_ir.specs.Ir as i
use Rattle.mw_ir.specs.Ir.{IrFunc}
use Rattle.mw_conv.specs.Convert.{lets, code, functions, converted_functions, converted_body, converted_outside}
use Rattle.mw_ir.specs.Ranges.{IsConverted}
use Rattle.mw_conv.specs.Represents.{Has, Stands}
use Rattle.mw_conv.proofs.Correct.{Value as Valued, has_self}
use Rattle.mw_meaning.specs.Shapes.{leaf_count}
use Rattle.mw_key.specs.declared.version.Version.{Version}
use Rattle.mw_gen.specs.Generate.{call_of as apply_to, init_function, call_function, more_functions}
use Rattle.mw_gen.specs.Generation.{call_frame}
use Rattle.mw_gen.specs.Emission.{emitted}
use Rattle.mw_gen.proofs.Words.{bits, Small, Keeps}
use Rattle.mw_gen.proofs.RunAnswers.{Says, Ends}
use Rattle.mw_gen.proofs.Locals.{word}
use Rattle.mw_gen.proofs.Stores.{store_at}
use Rattle.mw_gen.proofs.Correctness.{table_of, carries_alone}
use Rattle.mw_gen.proofs.Invocations.{init_at, call_at, init_says, call_says}
use Rattle.mw_gen.proofs.Ranges.{sound, body_fine, body_needs}
use Rattle.mw_gen.proofs.Results.{word_is}
use Rattle.mw_gen.proofs.Instance.{no_memory, instance_is, keeps_none}
use Rattle.mw_gen.proofs.Chain.{Answers, Ended, Started, Called, started, called}

-- an end without a value answers as the kernel's
stops_as : (y : Reason) (E : End) → KernelIsNotStuck (k.stops y) → Ends y E → AnswersAs (k.stops y) E
stops_as (trap kind.Divide) E p e = subst (λ E. AnswersAs (k.stops (trap kind.Divide)) E) (sym e.1) tt
stops_as (trap kind.Overflow) E p e = subst (λ E. AnswersAs (k.stops (trap kind.Overflow)) E) (sym e.1) tt
stops_as (bound Heap) E p e = subst (λ E. AnswersAs (k.stops (bound Heap)) E) (sym e.1) tt
stops_as (bound Fuel) E p e = subst (λ E. AnswersAs (k.stops (bound Fuel)) E) (sym e) tt
stops_as (bound KernelSize) E p e = absurd e
stops_as stuck E p e = absurd p

-- nothing goes on after it
stops_onward : (y : Reason) (E : End) (R : Store → Type 0) → Ends y E → KernelIsNotStuck (k.stops y) → IfEnded E R
stops_onward (trap y) E R e p = subst (λ E. IfEnded E R) (sym e.1) tt
stops_onward (bound Heap) E R e p = subst (λ E. IfEnded E R) (sym e.1) tt
stops_onward (bound Fuel) E R e p = subst (λ E. IfEnded E R) (sym e) tt
stops_onward (bound KernelSize) E R e p = absurd e
stops_onward stuck E R e p = absurd p

-- what is safe isn't stuck, and its value has what is said of it
not_stuck : {n : ℕ} {P : KernelValue → Type 0} {e : k.Ended} → KernelSafe n P e → KernelIsNotStuck e
not_stuck {e = k.gives v m h} s = tt
not_stuck {e = k.stops (trap t)} s = tt
not_stuck {e = k.stops (bound l)} s = tt
not_stuck {e = k.stops stuck} s = absurd s.is

value_safe : {n : ℕ} {P : KernelValue → Type 0} (a : k.Ended) (f : KernelValue) (l words : ℕ) → KernelSafe n P a
    → a ≡ k.gives f l words → P f
value_safe {n} {P} a f l words s e = (subst (λ a. KernelSafe n P a) e s).is.1

-- what `call` is to do in a module, as function g: what an application means
abbrev pub CallSays : List IrFunc → PureModule → GroundType → ℕ → Type 0
CallSays t m s g =
    (n : ℕ) (h : List ℤ) (mem : Memory) (r : ℤ) (ws : List ℤ) → length ws ≡ leaf_count s
    → ((j : ℕ) (w : ℤ) → slice_get (r ∷ ws) j ≡ Some w → Small w) → Keeps h mem
    → Says (Valued t n (apply_to s) n h (call_frame r ws)) (λ w l g E. Ended t h w l g E)
    (invoked m (store_at (table_of t) (8 * length h) mem) g (map word (r ∷ ws)) n)

-- what an end of `init` is to do: what the code means, whose functions are numbered from o on
abbrev pub InitSays : List IrFunc → Expression → ℕ → ℕ → End → Type 0
InitSays t c o n E = Says (Valued t n (code c o 0 0 (λ i. Argument)) n [] i.outside) (λ w l h E. Ended t h w l h E) E

module _ (t : List IrFunc) where
  init_answers : (a : k.Ended) (E : End) → KernelIsNotStuck a → Answers a (Started t) E → AnswersAs a E
  init_answers (k.gives x l words) E p q =
      let d = q.4 in subst (λ E. AnswersAs (k.gives x l words) E) (sym d.end)
      ((bits q.0, refl, word_is t q.1 q.2 x q.0 d.keeps d.stands), refl)
  init_answers (k.stops y) E p q = stops_as y E p q

  -- one invocation of `call`, and what comes after
  call_answers : (h0 : List ℤ) (a : k.Ended) (E : End) (R : Store → Type 0) → KernelIsNotStuck a
      → Answers a (Called t h0) E → ((after : Memory) → Keeps h0 after
      → R (store_at (table_of t) (8 * length h0) after)) → AnswersAs a E × IfEnded E R
  call_answers h0 (k.gives x l words) E R p q f =
      let d = q.3 in
      subst (λ E. AnswersAs (k.gives x l words) E × IfEnded E R) (sym d.end)
      (((bits q.0, refl, word_is t q.1 q.2 x q.0 d.keeps d.stands), refl), f q.2 d.before)
  call_answers h0 (k.stops y) E R p q f = (stops_as y E p q, stops_onward y E R q p)

  module _ (m : PureModule) (s : GroundType) (g : ℕ) (says : CallSays t m s g) where
    calls_answer : (f : KernelValue) (r : ℤ) (h0 : List ℤ) → Small r → Stands t h0 f r
        → ((w : Value) (n : ℕ) → IsArgument s w → KernelIsNotStuck
        (call_of f (length h0) (kernel_argument w) (argument_words w) n)) → (calls : List Call) → AreCalls s calls
        → (mem : Memory) → Keeps h0 mem → CallsAnswer m g (bits r) f (length h0) calls
        (store_at (table_of t) (8 * length h0) mem)
    calls_answer f r h0 sr st safe [] are mem me = tt
    calls_answer f r h0 sr st safe (q ∷ calls) are mem me =
        call_answers h0 (call_of f (length h0) (kernel_argument q.argument) (argument_words q.argument) q.units) _ _
        (safe q.argument q.units are.0) (called t m s g says f r h0 q.argument q.units mem sr st are.0 me)
        λ after keeps. calls_answer f r h0 sr st safe calls are.1 after keeps

    after_init : (a : k.Ended) (E : End) (calls : List Call) → ((f : KernelValue) (l words : ℕ) → a ≡ k.gives f l words
        → (w : Value) (n : ℕ) → IsArgument s w → KernelIsNotStuck
        (call_of f words (kernel_argument w) (argument_words w) n)) → Answers a (Started t) E → AreCalls s calls
        → CallsAfter m g a E calls
    after_init (k.gives x l words) E calls safe q are =
        let d = q.4 in
        subst (λ E. CallsAfter m g (k.gives x l words) E calls) (sym d.end)
        (subst (λ w. CallsAnswer m g (bits q.0) x w calls (store_at (table_of t) (8 * length q.1) q.2)) q.3
        (calls_answer x q.0 q.1 d.small d.stands (λ w n a. rw q.3 (safe x l words refl w n a)) calls are q.2 d.keeps))
    after_init (k.stops y) E calls safe q are = tt

-- calls of typed code aren't stuck
calls_going : (c : Expression) (s t : GroundType) → HasKernelType c (to s t) → (n : ℕ) (f : KernelValue) (l words : ℕ)
    → kernel_meaning n 0 c ≡ k.gives f l words → (w : Value) (m : ℕ) → IsArgument s w
    → KernelIsNotStuck (call_of f words (kernel_argument w) (argument_words w) m)
calls_going c s t typed n f l words e w m a =
    let has : TypedValue [] [] none (kernel_type (to s t)) f =
    value_safe (kernel_meaning n 0 c) f l words (closed_code_safe c 0 (kernel_type (to s t)) n 0 typed.is_code
    typed.typed) e in
    not_stuck (kernel_call_safe [] [] none s t f words w m [] has.0 has.1 (ground-typed _ s w a))

-- Typed code, whose functions stand in t from number o on: an end of `init` answers as the code does, and then each
-- list of calls.
module _ (t : List IrFunc) (c : Expression) (o : ℕ) (has : Has t o (functions c o 0)) where
  pub run_answers : (kt : KernelType) → HasKernelType c kt → (n : ℕ) (E : End) → InitSays t c o n E
      → AnswersAs (kernel_meaning n 0 c) E
  run_answers kt typed n E says =
      init_answers t (kernel_meaning n 0 c) E (kernel_meaning_never_stuck c 0 (kernel_type kt) n 0 typed.is_code
      typed.typed) (started t c o n E has says)

  pub calls_after : (m : PureModule) (s r : GroundType) (g : ℕ) → HasKernelType c (to s r) → CallSays t m s g
      → (n : ℕ) (E : End) → InitSays t c o n E → (calls : List Call) → AreCalls s calls
      → CallsAfter m g (kernel_meaning n 0 c) E calls
  calls_after m s r g typed says n E begins calls are =
      after_init t m s g says (kernel_meaning n 0 c) E calls (calls_going c s r typed n) (started t c o n E has begins)
      are

module _ (v : Version) (c : Expression) (is : IsConverted (converted_functions c) (converted_outside c)) where
  abbrev T : List IrFunc
  T = converted_functions c

  own_init : (kt : KernelType) (n : ℕ)
      → InitSays T c 0 n (invoked (emitted v c kt) (store_at (table_of T) 0 no_memory) (length T) [] n)
  own_init kt n =
      init_says v T (emitted v c kt) (carries_alone v T (lets c) (converted_body c) kt)
      (sound T (converted_outside c) is) (length T) (lets c) (converted_body c)
      (init_at v T (init_function (lets c) (converted_body c)) (more_functions kt)) refl n n no_memory
      (body_fine T (converted_outside c) is) (body_needs T (converted_outside c) is) keeps_none

  own_call : (s r : GroundType) → CallSays T (emitted v c (to s r)) s (suc (length T))
  own_call s r n h mem w ws len small me =
      call_says v T (emitted v c (to s r)) (carries_alone v T (lets c) (converted_body c) (to s r))
      (sound T (converted_outside c) is) s 2 (suc (length T))
      (call_at v T (init_function (lets c) (converted_body c)) (call_function s) []) refl n n h mem w ws len small
      me

  calls_mean : (kt : KernelType) → HasKernelType c kt → CallsMean (emitted v c kt) c kt (length T)
      (store_at (table_of T) 0 no_memory)
  calls_mean (of_ground t) typed = tt
  calls_mean (to s r) typed = (
    suc (length T),
    refl,
    λ n calls are. calls_after T c 0 (has_self [] T) (emitted v c (to s r)) s r
        (suc (length T)) typed (own_call s r) n _ (own_init (to s r) n) calls are,
  )

  -- the emitted module stands for its code
  pub stands : (kt : KernelType) → StandsFor (emitted v c kt) c kt
  stands kt = record {
    store = store_at (table_of T) 0 no_memory;
    has_instance = instance_is v T (lets c) (converted_body c) kt;
    means = λ typed. record {
      init = length T;
      is_init = refl;
      run = λ n. run_answers T c 0 (has_self [] T) kt typed n _ (own_init kt n);
      calls = calls_mean kt typed;
    };
  }
