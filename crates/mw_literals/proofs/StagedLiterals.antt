-- The staged meaning keeps integers of 64 bits, at both levels.
use Rattle.std.proofs.Common.{◌≡◌, ℕ, zero, suc, ◌≤◌, ◌<◌, Bool, true, false, List, [], Option, Some, None, refl, arith}
use Rattle.std.specs.Prelude.{slice_get}
use Rattle.mw_term.specs.Limits.{within_limits}
use Rattle.mw_term.specs.Terms.{Expression, Value, KernelValue, KernelType, of_ground, to, num, truth, var, glob, fun}
use Rattle.mw_term.specs.Terms.{fix, app, bind, cond, pair, fst, snd, prim, bracket, escape, run, close, opened, lift}
use Rattle.mw_term.specs.Terms.{lift_b, int, bool, both, function, recursive, code, kept, size}
use Rattle.mw_term.specs.declared.term.Primitive.{Primitive as Prim}
use Rattle.mw_term.specs.Substitution.{substitute, shift_value}
use Rattle.mw_term.proofs.Substitution.{size-substitute}
use Rattle.mw_meaning.specs.declared.mode.Mode.{Mode}
use Rattle.mw_meaning.specs.Arithmetic.{PrimitiveResult, number, fact, trapped, compute}
use Rattle.mw_meaning.specs.KernelMeaning.{Ended, gives as made, stops as ends, kernel_meaning}
use Rattle.mw_meaning.specs.Simplification.{in_mode}
use Rattle.mw_meaning.specs.StagedMeaning.{Answer, gives, stops, and_then, Level, live, quoted, ResultAt, Runs}
use Rattle.mw_meaning.specs.StagedMeaning.{value_or_stuck, spends, applied, chosen, first_of_two, second_of_two}
use Rattle.mw_meaning.specs.StagedMeaning.{result_of, computed, lifted, lifted_b, spliced, measured, measured_run}
use Rattle.mw_meaning.specs.StagedMeaning.{live_step, quoted_step, evaluation, kernel_argument, ground_result}
use Rattle.mw_meaning.specs.StagedMeaning.{argument_words, run_ended, call_ended, run_of, call_of, outside, staged}
use Rattle.mw_meaning.specs.TypingLaws.{IfGives}
use Rattle.mw_meaning.proofs.Inductions.{staged_induction}
use Rattle.mw_meaning.proofs.Outsides.{fair, staged_is}
use Rattle.mw_meaning.proofs.StagedFixedPoint.{AtMost, evaluation_at_most}
use Rattle.mw_literals.specs.Literals.{short_rule, HasShortLiterals, HasShortValue, HasShortKernelValue}
use Rattle.mw_literals.proofs.KernelLiterals.{IsShortResult, compute_short, EndsShort, meaning_short, call_short}
use Rattle.mw_literals.proofs.SimplifiedLiterals.{in_mode_short}
use Rattle.mw_term.proofs.EachNode.{each-shift_value, each-substitute}

-- what an evaluation gives at a level is short
abbrev pub IsShortAt : (m : Level) → ResultAt m → Type 0
IsShortAt live v = HasShortValue v
IsShortAt quoted e = HasShortLiterals e

-- the answer, if it gives something, gives what P holds of
record Keeps {A : Type 0} (P : A → Type 0) (a : Answer Runs A) : Type 0 where
  is : IfGives P a

ok : {A : Type 0} {P : A → Type 0} {v : A} {n : ℕ} {s : Runs} → P v → Keeps P (gives v n s)
ok p = record { is = p }

none : {A : Type 0} {P : A → Type 0} {a : Answer Runs A} → IfGives P a → Keeps P a
none p = record { is = p }

-- on with what is given
then_keeps : {A B : Type 0} {P : A → Type 0} {Q : B → Type 0} {n : ℕ} {a : Answer Runs A}
    {go : A → ℕ → Runs → Answer Runs B} → AtMost n a → Keeps P a
    → ((v : A) (m : ℕ) (s : Runs) → m ≤ n → P v → Keeps Q (go v m s)) → Keeps Q (and_then a go)
then_keeps {a = gives v m s} le h g = g v m s le h.is
then_keeps {a = stops why s} le h g = none tt

-- the value, if there is one, is short
abbrev IfSomeShort : Option Value → Type 0
IfSomeShort None = Unit {0}
IfSomeShort (Some v) = HasShortValue v

abbrev IfSomeShortArgument : Option KernelValue → Type 0
IfSomeShortArgument None = Unit {0}
IfSomeShortArgument (Some v) = HasShortKernelValue v

ground_both_short : (v w : KernelValue) (x y : Option Value) → ground_result v ≡ x → ground_result w ≡ y → IfSomeShort x
    → IfSomeShort y
    → IfSomeShort (ground_result (both v w))
ground_both_short v w None y p q s t = rw p tt
ground_both_short v w (Some i) None p q s t = rw (p, q) tt
ground_both_short v w (Some i) (Some j) p q s t = rw (p, q) (s, t)

ground_short : (v : KernelValue) → HasShortKernelValue v → IfSomeShort (ground_result v)
ground_short (int z) x = x
ground_short (both v w) x = ground_both_short v w (ground_result v) (ground_result w) refl refl (ground_short v x.0)
    (ground_short w x.1)
ground_short e x = tt

argument_both_short : (v w : Value) (x y : Option KernelValue) → kernel_argument v ≡ x → kernel_argument w ≡ y
    → IfSomeShortArgument x → IfSomeShortArgument y
    → IfSomeShortArgument (kernel_argument (both v w))
argument_both_short v w None y p q s t = rw p tt
argument_both_short v w (Some i) None p q s t = rw (p, q) tt
argument_both_short v w (Some i) (Some j) p q s t = rw (p, q) (s, t)

argument_short : (v : Value) → HasShortValue v → IfSomeShortArgument (kernel_argument v)
argument_short (int z) x = x
argument_short (both v w) x = argument_both_short v w (kernel_argument v) (kernel_argument w) refl refl
    (argument_short v x.0) (argument_short w x.1)
argument_short e x = tt

value_short : (v : Option Value) (n : ℕ) (s : Runs) → IfSomeShort v → Keeps HasShortValue (value_or_stuck v n s)
value_short None n s x = none tt
value_short (Some v) n s x = ok x

-- runs and calls of kernels
run_ended_short : (k : KernelType) (e : Ended) (s : Runs) → EndsShort e → Keeps HasShortValue (run_ended k e s)
run_ended_short (of_ground t) (made v n h) s x = value_short (ground_result v) n s (ground_short v x)
run_ended_short (to g t) (made (function e) n h) s x = ok x
run_ended_short (to g t) (made (recursive e) n h) s x = ok x
run_ended_short (of_ground t) (ends why) s x = none tt
run_ended_short (to g t) e s x = none tt

run_short : (mode : Mode) (k : KernelType) (c : Expression) (n : ℕ) (s : Runs) → HasShortLiterals c
    → Keeps HasShortValue (run_of mode k c n s)
run_short mode k c n s x = run_ended_short k (kernel_meaning n 0 (in_mode mode c)) _
    (meaning_short (in_mode mode c) n 0 (in_mode_short mode c x))

call_ended_short : (e : Ended) (s : Runs) → EndsShort e → Keeps HasShortValue (call_ended e s)
call_ended_short (made v n h) s x = value_short (ground_result v) n s (ground_short v x)
call_ended_short (ends why) s x = none tt

called_short : (f : KernelValue) (h : ℕ) (w : Option KernelValue) (k n : ℕ) → HasShortKernelValue f
    → IfSomeShortArgument w → EndsShort (call_of f h w k n)
called_short f h None k n x y = tt
called_short f h (Some w) k n x y = call_short f w h k n x y

-- primitives, and code of literals
result_short : (r : PrimitiveResult) (n : ℕ) (s : Runs) → IsShortResult r → Keeps HasShortValue (result_of r n s)
result_short (number z) n s x = ok x
result_short (fact b) n s x = ok tt
result_short (trapped t) n s x = none tt

computed_short : (p : Prim) (u w : Value) (n : ℕ) (s : Runs) → HasShortValue u
    → Keeps HasShortValue (computed p u w n s)
computed_short p (int x) (int y) n s h = result_short (compute p x y) n s (compute_short p x y h)
computed_short p _ _ n s h = none tt

lifted_short : (v : Value) (n : ℕ) (s : Runs) → HasShortValue v → Keeps HasShortValue (lifted v n s)
lifted_short (int z) n s x = ok x
lifted_short _ n s x = none tt

lifted_b_short : (v : Value) (n : ℕ) (s : Runs) → Keeps HasShortValue (lifted_b v n s)
lifted_b_short (bool b) n s = ok tt
lifted_b_short _ n s = none tt

spliced_short : (v : Value) (n : ℕ) (s : Runs) → HasShortValue v → Keeps HasShortLiterals (spliced v n s)
spliced_short (code c) n s x = ok x
spliced_short _ n s x = none tt

first_short : (v : Value) (n : ℕ) (s : Runs) → HasShortValue v → Keeps HasShortValue (first_of_two v n s)
first_short (both u w) n s x = ok x.0
first_short _ n s x = none tt

second_short : (v : Value) (n : ℕ) (s : Runs) → HasShortValue v → Keeps HasShortValue (second_of_two v n s)
second_short (both u w) n s x = ok x.1
second_short _ n s x = none tt

spending_short : (n m : ℕ) (s : Runs) (go : ℕ → Answer Runs Value) → m ≤ n
    → ((k : ℕ) → k < n → Keeps HasShortValue (go k))
    → Keeps HasShortValue (spends m s go)
spending_short n zero s go le g = none tt
spending_short n (suc m) s go le g = g m le

chosen_short : (v : Value) (a b : Expression) (s : Runs) (go : Expression → Answer Runs Value)
    → Keeps HasShortValue (go a) → Keeps HasShortValue (go b)
    → Keeps HasShortValue (chosen v a b s go)
chosen_short (bool true) a b s go x y = x
chosen_short (bool false) a b s go x y = y
chosen_short _ a b s go x y = none tt

-- the values of the top-level names are short
abbrev pub AreShortNames : List Value → Type 0
AreShortNames names = (i : ℕ) (v : Value) → slice_get names i ≡ Some v → HasShortValue v

named_short : (names : List Value) (i : ℕ) (v : Option Value) → slice_get names i ≡ v → AreShortNames names
    → IfSomeShort v
named_short names i None e h = tt
named_short names i (Some v) e h = h i v e

module _ (mode : Mode) (names : List Value) (short_names : AreShortNames names) where
  abbrev Goal : Level → ℕ → Expression → Type 0
  Goal m n e = (s : Runs) → HasShortLiterals e → Keeps (IsShortAt m) (evaluation (outside mode names) m n s e)

  most : (m : Level) (n : ℕ) (s : Runs) (e : Expression) → AtMost n (evaluation (outside mode names) m n s e)
  most = evaluation_at_most (outside mode names) (fair mode names)

  applied_short : (n m : ℕ) (s : Runs) (u w : Value) → m ≤ n → ((k : ℕ) (d : Expression) → k < n → Goal live k d)
      → HasShortValue u → HasShortValue w
      → Keeps HasShortValue (applied (outside mode names) u w m s (λ l e. evaluation (outside mode names) live l s e))
  applied_short n m s (function e) w le below x y = spending_short n m s _ le λ k lt.
      below k _ lt s (each-substitute short_rule e zero w x y)
  applied_short n m s (recursive e) w le below x y =
      let itself = shift_value (recursive e) zero in
      let entered = each-substitute short_rule e 1 itself x (each-shift_value short_rule (recursive e) zero x) in
      spending_short n m s _ le λ k lt.
      below k _ lt s (each-substitute short_rule (substitute e 1 itself) zero w entered y)
  applied_short n m s (kept k f h) w le below x y =
      let called = called_short f h (kernel_argument w) (argument_words w) m x (argument_short w y) in
      call_ended_short (call_of f h (kernel_argument w) (argument_words w) m) s called
  applied_short n m s _ w le below x y = none tt

  measured_run_short : (k : KernelType) (v : Value) (n : ℕ) (s : Runs) → HasShortValue v
      → Keeps HasShortValue (measured_run (outside mode names) k v n s)
  measured_run_short k (code c) n s x = go (within_limits c)
    where
      go : (b : Bool) → Keeps HasShortValue (measured b c s λ c. run_of mode k c n s)
      go true = run_short mode k c n s x
      go false = none tt
  measured_run_short k _ n s x = none tt

  live_short : (n : ℕ) (e : Expression) → ((k : ℕ) (d : Expression) → k < n → Goal live k d)
      → ((m : Level) (k : ℕ) (d : Expression) → k ≤ n → size d < size e → Goal m k d) → (s : Runs) → HasShortLiterals e
      → Keeps HasShortValue
      (live_step (outside mode names) (evaluation (outside mode names))
      (λ n s e. evaluation (outside mode names) live n s e) n s e)
  live_short n (truth b) below parts s x = ok tt
  live_short n (var i) below parts s x = none tt
  live_short n (glob i) below parts s x = value_short (slice_get names i) n s
      (named_short names i (slice_get names i) refl short_names)
  live_short n (app f a) below parts s x =
      then_keeps (most live n s f) (parts live n f (omega arith) (omega arith) s x.0) λ u m s le y.
      then_keeps (most live m s a) (parts live m a le (omega arith) s x.1) λ w l s less z.
      applied_short n l s u w (omega arith) below y z
  live_short n (bind d e) below parts s x =
      then_keeps (most live n s d) (parts live n d (omega arith) (omega arith) s x.0) λ v m s le y.
      parts live m (substitute e zero v) le (omega (arith, size-substitute e zero v)) s
      (each-substitute short_rule e zero v x.1 y)
  live_short n (cond c a b) below parts s x =
      then_keeps (most live n s c) (parts live n c (omega arith) (omega arith) s x.0) λ v m s le y.
      chosen_short v a b s _ (parts live m a le (omega arith) s x.1) (parts live m b le (omega arith) s x.2)
  live_short n (pair a b) below parts s x =
      then_keeps (most live n s a) (parts live n a (omega arith) (omega arith) s x.0) λ u m s le y.
      then_keeps (most live m s b) (parts live m b le (omega arith) s x.1) λ w l s less z. ok (y, z)
  live_short n (fst e) below parts s x = then_keeps (most live n s e) (parts live n e (omega arith) (omega arith) s x)
      λ v m s le y. first_short v m s y
  live_short n (snd e) below parts s x = then_keeps (most live n s e) (parts live n e (omega arith) (omega arith) s x)
      λ v m s le y. second_short v m s y
  live_short n (prim p a b) below parts s x =
      then_keeps (most live n s a) (parts live n a (omega arith) (omega arith) s x.0) λ u m s le y.
      then_keeps (most live m s b) (parts live m b le (omega arith) s x.1) λ w l s less z. computed_short p u w l s y
  live_short n (bracket e) below parts s x =
      then_keeps (most quoted n s e) (parts quoted n e (omega arith) (omega arith) s x) λ c m s le y. ok y
  live_short n (escape e) below parts s x = none tt
  live_short n (run k e) below parts s x =
      then_keeps (most live n s e) (parts live n e (omega arith) (omega arith) s x) λ v m s le y.
      measured_run_short k v m s y
  live_short n (close at e) below parts s x = parts live n e (omega arith) (omega arith) s x
  live_short n (opened e) below parts s x = parts live n e (omega arith) (omega arith) s x
  live_short n (lift e) below parts s x = then_keeps (most live n s e) (parts live n e (omega arith) (omega arith) s x)
      λ v m s le y. lifted_short v m s y
  live_short n (lift_b e) below parts s x =
      then_keeps (most live n s e) (parts live n e (omega arith) (omega arith) s x) λ v m s le y. lifted_b_short v m s
  live_short n e below parts s x = ok x

  quoted_short : (n : ℕ) (e : Expression)
      → ((m : Level) (k : ℕ) (d : Expression) → k ≤ n → size d < size e → Goal m k d) → (s : Runs) → HasShortLiterals e
      → Keeps HasShortLiterals (quoted_step (evaluation (outside mode names)) n s e)
  quoted_short n (num z) parts s x = ok x
  quoted_short n (truth b) parts s x = ok tt
  quoted_short n (var i) parts s x = ok tt
  quoted_short n (fun e) parts s x = then_keeps (most quoted n s e) (parts quoted n e (omega arith) (omega arith) s x)
      λ c m s le y. ok y
  quoted_short n (fix e) parts s x = then_keeps (most quoted n s e) (parts quoted n e (omega arith) (omega arith) s x)
      λ c m s le y. ok y
  quoted_short n (app f a) parts s x =
      then_keeps (most quoted n s f) (parts quoted n f (omega arith) (omega arith) s x.0) λ f m s le y.
      then_keeps (most quoted m s a) (parts quoted m a le (omega arith) s x.1) λ a l s less z. ok (y, z)
  quoted_short n (bind d e) parts s x =
      then_keeps (most quoted n s d) (parts quoted n d (omega arith) (omega arith) s x.0) λ d m s le y.
      then_keeps (most quoted m s e) (parts quoted m e le (omega arith) s x.1) λ e l s less z. ok (y, z)
  quoted_short n (cond c a b) parts s x =
      then_keeps (most quoted n s c) (parts quoted n c (omega arith) (omega arith) s x.0) λ c m s le y.
      then_keeps (most quoted m s a) (parts quoted m a le (omega arith) s x.1) λ a l s less z.
      then_keeps (most quoted l s b) (parts quoted l b (omega arith) (omega arith) s x.2) λ b k s least w. ok (y, z, w)
  quoted_short n (pair a b) parts s x =
      then_keeps (most quoted n s a) (parts quoted n a (omega arith) (omega arith) s x.0) λ a m s le y.
      then_keeps (most quoted m s b) (parts quoted m b le (omega arith) s x.1) λ b l s less z. ok (y, z)
  quoted_short n (fst e) parts s x = then_keeps (most quoted n s e) (parts quoted n e (omega arith) (omega arith) s x)
      λ c m s le y. ok y
  quoted_short n (snd e) parts s x = then_keeps (most quoted n s e) (parts quoted n e (omega arith) (omega arith) s x)
      λ c m s le y. ok y
  quoted_short n (prim p a b) parts s x =
      then_keeps (most quoted n s a) (parts quoted n a (omega arith) (omega arith) s x.0) λ a m s le y.
      then_keeps (most quoted m s b) (parts quoted m b le (omega arith) s x.1) λ b l s less z. ok (y, z)
  quoted_short n (escape e) parts s x = then_keeps (most live n s e) (parts live n e (omega arith) (omega arith) s x)
      λ v m s le y. spliced_short v m s y
  quoted_short n _ parts s x = none tt

  step_short : (m : Level) (n : ℕ) (e : Expression) → ((k : ℕ) (d : Expression) → k < n → Goal live k d)
      → ((o : Level) (k : ℕ) (d : Expression) → k ≤ n → size d < size e → Goal o k d) → Goal m n e
  step_short live n e below parts s x = rw (staged_is mode names live n s e) (live_short n e below parts s x)
  step_short quoted n e below parts s x = rw (staged_is mode names quoted n s e) (quoted_short n e parts s x)

  -- THE THEOREM
  evaluation_short : (m : Level) (n : ℕ) (e : Expression) → Goal m n e
  evaluation_short = staged_induction Goal step_short

-- what a term gives, with short values of the top-level names
pub staged_short : (mode : Mode) (names : List Value) (n : ℕ) (e : Expression) → AreShortNames names
    → HasShortLiterals e
    → IfGives HasShortValue (staged mode names n e)
staged_short mode names n e h x = (evaluation_short mode names h live n e [] x).is
