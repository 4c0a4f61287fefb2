-- `init`, and then any list of calls, answer as the kernel meaning does.
use Rattle.std.proofs.Common.{◌≡◌, ℕ, zero, suc, ◌+◌, ◌≤◌, ◌<◌, Bool, true, false, List, [], ◌∷◌, ◌++◌, length, Some}
use Rattle.std.proofs.Common.{refl, ap, ◌∙◌, subst, arith}
use Rattle.std.specs.Prelude.{ℤ, slice_get, nat_le, ◌*◌, map}
use Rattle.mw_term.specs.Terms.{Expression, KernelValue, Value as Given, GroundType}
use Rattle.mw_meaning.specs.Arithmetic.{trap, bound, stuck}
use Rattle.mw_meaning.specs.KernelMeaning as k
use Rattle.mw_meaning.specs.KernelMeaning.{kernel_evaluation, kernel_meaning, labelled}
use Rattle.mw_meaning.specs.StagedMeaning.{kernel_argument, argument_words, call_of as kept_call}
use Rattle.mw_meaning.specs.StandingFor.{leaves}
use Rattle.mw_meaning.specs.GroundValues.{IsArgument}
use Rattle.mw_wasm.specs.Syntax.{PureModule}
use Rattle.mw_wasm.specs.Store.{Memory}
use Rattle.mw_wasm.specs.Execution.{End, ended}
use Rattle.mw_wasm.specs.Instances.{invoked}
use Rattle.mw_wasm.specs.declared.values.Value.TheVariants.{I64}
use Rattle.mw_ir.specs.Ir as i
use Rattle.mw_ir.specs.declared.place.Place.TheVariants.{Argument}
use Rattle.mw_ir.specs.Ir.{IrFunc}
use Rattle.mw_conv.specs.Convert.{functions, code}
use Rattle.mw_conv.specs.Represents.{Grows, Has, Stands}
use Rattle.mw_conv.proofs.Heaps.{stands_grows}
use Rattle.mw_conv.specs.Agreement.{Agrees}
use Rattle.mw_conv.proofs.Agrees.{then_agrees}
use Rattle.mw_conv.proofs.Correct.{Value, Body, correct, closed, enters}
use Rattle.mw_meaning.specs.Shapes.{leaf_count}
use Rattle.mw_gen.specs.Generate.{call_of}
use Rattle.mw_gen.proofs.Words.{bits, Small, Keeps, keeps_front}
use Rattle.mw_gen.proofs.Locals.{word}
use Rattle.mw_gen.proofs.RunAnswers.{Says, Ends}
use Rattle.mw_gen.proofs.Stores.{store_at}
use Rattle.mw_gen.proofs.Correctness.{table_of}
use Rattle.mw_gen.specs.Generation.{call_frame}
use Rattle.mw_gen.proofs.Arguments.{leaf_words, made, argument_made, leaves_are, term_taken, leaves_length}
use Rattle.mw_gen.proofs.Arguments.{leaves_small, argument_right}

-- a heap that grew begins with what it was
grows_front : (h g : List ℤ) → Grows h g → (us : List ℤ) × (g ≡ h ++ us)
grows_front [] g f = (g, refl)
grows_front (x ∷ h) [] f = absurd (let e = f 0 x refl in (cc))
grows_front (x ∷ h) (y ∷ g) f =
    let e = f 0 x refl in
    let q : y ≡ x = (cc) in
    let r = grows_front h g (λ k w e. f (suc k) w e) in
    (r.0, ap (λ z. z ∷ g) q ∙ ap (λ g. x ∷ g) r.1)

-- what the kernel meaning says of an end
abbrev pub Answers : k.Ended → (KernelValue → ℕ → ℕ → End → Type 0) → End → Type 0
Answers (k.gives v n h) P E = P v n h E
Answers (k.stops y) P E = Ends y E

answers_map : (a : k.Ended) (P R : KernelValue → ℕ → ℕ → End → Type 0) (E : End)
    → ((v : KernelValue) (n h : ℕ) → P v n h E → R v n h E) → Answers a P E → Answers a R E
answers_map (k.gives v n h) P R E f p = f v n h p
answers_map (k.stops y) P R E f p = p

-- the two theorems, joined
abbrev pub Joined : List IrFunc → List ℤ → (ℤ → ℕ → List ℤ → End → Type 0) → KernelValue → ℕ → ℕ → End → Type 0
Joined t h0 Q v l words E = (w : ℤ) × (h : List ℤ) × (length h ≡ words) × Grows h0 h × Stands t h v w × Q w l h E

joined : (t : List IrFunc) (n : ℕ) (h0 : List ℤ) (a : k.Ended) (b : i.Ended) (Q : ℤ → ℕ → List ℤ → End → Type 0)
    (E : End) → Agrees t n h0 a b → Says b Q E → Answers a (Joined t h0 Q) E
joined t n h0 (k.gives v l words) b Q E g s = let y = g.holds in
    (y.w, y.h, y.as_many, y.grows, y.stands, (subst (λ b. Says b Q E) y.gives s).says)
joined t n h0 (k.stops stuck) b Q E g s = tt
joined t n h0 (k.stops (trap y)) b Q E g s = (subst (λ b. Says b Q E) g.holds s).says
joined t n h0 (k.stops (bound y)) b Q E g s = (subst (λ b. Says b Q E) g.holds s).says

taken_then : (a h n : ℕ) (w : KernelValue) (go : KernelValue → ℕ → ℕ → k.Ended) → k.taking a h (λ h. go w n h)
    ≡ k.and_then (k.taking a h (λ h. k.gives w n h)) go
taken_then a h n w go = cases (nat_le (h + a) 524288)
  where
    cases : (b : Bool) → k.with_room b (h + a) (λ h. go w n h) ≡ k.and_then (k.with_room b (h + a) (λ h. k.gives w n h))
        go
    cases true = refl
    cases false = refl

bodies : (t : List IrFunc) (c m : ℕ) (e : Expression) → m < c → Body t c m e
bodies t zero m e lt = absurd (omega arith)
bodies t (suc c) m e lt = λ k s ctx env h fr se has f. correct t c e m k s ctx env h fr (omega arith) se has f

-- a call of a kept function, as the intermediate language means it
call_agrees : (t : List IrFunc) (s : GroundType) (f : KernelValue) (w : Given) (r : ℤ) (n : ℕ) (h : List ℤ)
    → length h ≤ 524288 → Stands t h f r → IsArgument s w
    → Agrees t n h (kept_call f (length h) (kernel_argument w) (argument_words w) n)
    (Value t n (call_of s) n h (call_frame r (leaf_words w)))
call_agrees t s f w r n h le st a =
    rw (argument_made s w a)
    (rw (
      taken_then (argument_words w) (length h) n (made w)
          (λ w n h. k.entered f w λ e. k.spending n λ n. kernel_evaluation n h e),
      ← term_taken s n (length h) w a le,
    )
    (then_agrees t n h _ _ _ _
    (argument_right t n s w n 1 h (call_frame r (leaf_words w)) a (λ j z e. let q : 1 + j ≡ suc j = omega arith in
    rw q e)) λ v m y h1 le1 g1 sy.
    enters t n m h1 f v r y (λ q e lt. bodies t n q e (omega arith)) (stands_grows t h h1 g1 f r st) sy))

-- what an invocation that ends with the value x leaves, where the memory kept the words h0: a word that stands for the
-- value
pub record Left (t : List IrFunc) (h0 top : List ℤ) (x : KernelValue) (l : ℕ) (h : List ℤ) (y : ℤ) (mem : Memory)
    (E : End) : Type 0 where
  pub end : E ≡ ended (store_at (table_of t) (8 * length top) mem) (word y ∷ []) l
  pub stands : Stands t h x y
  pub small : Small y
  pub keeps : Keeps h mem
  pub before : Keeps h0 mem

module _ (t : List IrFunc) where
  -- the store after an end with a value, where the memory kept the words top
  abbrev pub Ended : List ℤ → ℤ → ℕ → List ℤ → End → Type 0
  Ended top w l h E =
      (mem : Memory) × (E ≡ ended (store_at (table_of t) (8 * length top) mem) (word w ∷ []) l) × Keeps h mem × Small w

  -- what an invocation of `init` leaves, where it ends with a value
  abbrev pub Started : KernelValue → ℕ → ℕ → End → Type 0
  Started x l words E = (y : ℤ) × (h : List ℤ) × (mem : Memory) × (length h ≡ words) × Left t [] h x l h y mem E

  -- and one of `call`, where the memory kept the words h0
  abbrev pub Called : List ℤ → KernelValue → ℕ → ℕ → End → Type 0
  Called h0 x l words E = (y : ℤ) × (g : List ℤ) × (after : Memory) × Left t h0 h0 x l g y after E

  -- `init` of the code whose functions stand in t from number o on
  pub started : (c : Expression) (o n : ℕ) (E : End) → Has t o (functions c o 0)
      → Says (Value t n (code c o 0 0 (λ i. Argument)) n [] i.outside) (λ w l h E. Ended h w l h E) E
      → Answers (kernel_meaning n 0 c) Started E
  started c o n E has says =
      answers_map (kernel_meaning n 0 c) _ _ _
      (λ x l words p. (
        p.0,
        p.1,
        p.5.0,
        p.2,
        record {
          end = p.5.1;
          stands = p.4;
          small = p.5.3;
          keeps = p.5.2;
          before =
              keeps_front [] p.1 p.5.0 p.5.2;
        },
      ))
      (joined t n [] (kernel_meaning n 0 c) (Value t n (code c o 0 0 (λ i. Argument)) n [] i.outside) _ _
      (rw (closed (labelled c 0)) at (correct t n c n o 0 (λ i. Argument) [] [] i.outside (omega arith) refl has
      (λ i v o g. absurd (cc))))
      says)

  all_small : (r : ℤ) (ws : List ℤ) → Small r → ((j : ℕ) (z : ℤ) → slice_get ws j ≡ Some z → Small z) → (j : ℕ) (z : ℤ)
      → slice_get (r ∷ ws) j ≡ Some z → Small z
  all_small r ws p f zero z e = let q : r ≡ z = (cc) in subst (λ z. Small z) q p
  all_small r ws p f (suc j) z e = f j z e

  -- a call that does what an application means, where the memory keeps the heap h0 that stands for the function:
  -- afterwards it keeps it still
  pub called : (m : PureModule) (s : GroundType) (g : ℕ)
      → ((n : ℕ) (h : List ℤ) (mem : Memory) (r : ℤ) (ws : List ℤ) → length ws ≡ leaf_count s
      → ((j : ℕ) (w : ℤ) → slice_get (r ∷ ws) j ≡ Some w → Small w) → Keeps h mem
      → Says (Value t n (call_of s) n h (call_frame r ws)) (λ w l g E. Ended h w l g E)
      (invoked m (store_at (table_of t) (8 * length h) mem) g (map word (r ∷ ws)) n))
      → (f : KernelValue) (r : ℤ) (h0 : List ℤ) (w : Given) (n : ℕ) (mem : Memory) → Small r → Stands t h0 f r
      → IsArgument s w → Keeps h0 mem → Answers (kept_call f (length h0) (kernel_argument w) (argument_words w) n)
      (Called h0) (invoked m (store_at (table_of t) (8 * length h0) mem) g (I64 (bits r) ∷ leaves w) n)
  called m s g says f r h0 w n mem sr st a me =
      rw (leaves_are s w a)
      (answers_map (kept_call f (length h0) (kernel_argument w) (argument_words w) n) _ _ _
      (λ x l words p.
      let front = grows_front h0 p.1 p.3 in (
        p.0,
        p.1,
        p.5.0,
        record {
          end = p.5.1;
          stands = p.4;
          small = p.5.3;
          keeps = p.5.2;
          before =
              keeps_front h0 front.0 p.5.0 (subst (λ g. Keeps g p.5.0) front.1 p.5.2);
        },
      ))
      (joined t n h0 (kept_call f (length h0) (kernel_argument w) (argument_words w) n)
      (Value t n (call_of s) n h0 (call_frame r (leaf_words w))) _ _
      (call_agrees t s f w r n h0 me.few st a)
      (says n h0 mem r (leaf_words w) (leaves_length s w a) (all_small r (leaf_words w) sr (leaves_small s w a)) me)))
