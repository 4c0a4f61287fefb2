-- The kernel meaning keeps integers of 64 bits.
use Rattle.std.proofs.Common.{◌≡◌, ℕ, zero, suc, ◌+◌, ◌≤◌, ◌<◌, Bool, true, false, Some, refl, arith}
use Rattle.std.specs.Prelude.{ℤ, pos, negsuc, neg_ℤ, ◌==◌, ◌^◌, ◌-◌, ◌/◌, int_div, if◌then◌else◌, nat_le, FitsSigned}
use Rattle.std.specs.Int.{w64}
use Rattle.std.specs.Int.Signed.{mag, mag_rem}
use Rattle.std.proofs.Math.Nat.{div-le_self, div-lt_self}
use Rattle.std.proofs.lemmas.Bool.{eqb-false}
use Rattle.std.proofs.lemmas.Int.{SFits-int_wrap}
use Rattle.mw_term.specs.Terms.{Expression, KernelTerm, KernelValue, num, truth, var, fun, fix, app, bind, cond, pair}
use Rattle.mw_term.specs.Terms.{fst, snd, prim, done, int, bool, both, function, recursive}
use Rattle.mw_term.specs.declared.term.Primitive.{Primitive as Prim}
use Rattle.mw_term.specs.declared.term.Primitive.TheVariants.{Add, Div, Mod, Eq, Lt, Le}
use Rattle.mw_term.specs.declared.value.TrapKind.TheVariants.{Overflow}
use Rattle.mw_term.specs.Substitution.{instantiate, pick}
use Rattle.mw_meaning.specs.Arithmetic.{PrimitiveResult, number, fact, trapped, compute, quotient, remainder}
use Rattle.mw_meaning.specs.KernelMeaning.{Ended, gives, stops, and_then, taking, with_room, spending, entered, chosen}
use Rattle.mw_meaning.specs.KernelMeaning.{first_of_two, second_of_two, result_of, computed, kernel_step}
use Rattle.mw_meaning.specs.KernelMeaning.{kernel_evaluation, kernel_meaning, kernel_size, labelled}
use Rattle.mw_meaning.specs.StagedMeaning.{call_of}
use Rattle.mw_meaning.proofs.KernelFixedPoint.{AtMost, fill_size, kernel_evaluation-is, kernel_evaluation_at_most}
use Rattle.mw_meaning.proofs.Inductions.{kernel_induction}
use Rattle.mw_meaning.proofs.SimplifiedNodes.{IfNumber}
use Rattle.mw_literals.specs.Literals.{HasShortLiterals, HasShortKernelTerm, HasShortKernelValue}

-- labels keep literals
labelled_short : (c : Expression) (d : ℕ) → HasShortLiterals c → HasShortKernelTerm (labelled c d)
labelled_short (num z) d x = x
labelled_short (fun e) d x = labelled_short e (suc d) x
labelled_short (fix e) d x = labelled_short e (suc (suc d)) x
labelled_short (app f a) d x = (labelled_short f d x.0, labelled_short a d x.1)
labelled_short (bind a e) d x = (labelled_short a d x.0, labelled_short e (suc d) x.1)
labelled_short (cond c a b) d x = (labelled_short c d x.0, labelled_short a d x.1, labelled_short b d x.2)
labelled_short (pair a b) d x = (labelled_short a d x.0, labelled_short b d x.1)
labelled_short (fst e) d x = labelled_short e d x
labelled_short (snd e) d x = labelled_short e d x
labelled_short (prim p a b) d x = (labelled_short a d x.0, labelled_short b d x.1)
labelled_short e d x = tt

-- a short value in a short term
pick_short : (k i : ℕ) (v : KernelValue) (other : ℕ → KernelTerm) → HasShortKernelValue v
    → ((j : ℕ) → HasShortKernelTerm (other j))
    → HasShortKernelTerm (pick k i (done v) other)
pick_short zero zero v other x h = x
pick_short zero (suc i) v other x h = h i
pick_short (suc k) zero v other x h = h zero
pick_short (suc k) (suc i) v other x h = pick_short k i v (λ j. other (suc j)) x (λ j. h (suc j))

instantiate_short : (e : KernelTerm) (k : ℕ) (v : KernelValue) → HasShortKernelTerm e → HasShortKernelValue v
    → HasShortKernelTerm (instantiate e k v)
instantiate_short (num z) k v x y = x
instantiate_short (truth b) k v x y = tt
instantiate_short (var i) k v x y = pick_short k i v var y (λ j. tt)
instantiate_short (fun free e) k v x y = instantiate_short e (suc k) v x y
instantiate_short (fix free e) k v x y = instantiate_short e (suc (suc k)) v x y
instantiate_short (app f a) k v x y = (instantiate_short f k v x.0 y, instantiate_short a k v x.1 y)
instantiate_short (bind d e) k v x y = (instantiate_short d k v x.0 y, instantiate_short e (suc k) v x.1 y)
instantiate_short (cond c a b) k v x y =
    (instantiate_short c k v x.0 y, instantiate_short a k v x.1 y, instantiate_short b k v x.2 y)
instantiate_short (pair a b) k v x y = (instantiate_short a k v x.0 y, instantiate_short b k v x.1 y)
instantiate_short (fst e) k v x y = instantiate_short e k v x y
instantiate_short (snd e) k v x y = instantiate_short e k v x y
instantiate_short (prim p a b) k v x y = (instantiate_short a k v x.0 y, instantiate_short b k v x.1 y)
instantiate_short (done w) k v x y = x

-- a primitive's number has 64 bits
abbrev pub IsShortResult : PrimitiveResult → Type 0
IsShortResult r = IfNumber (FitsSigned w64) r

negated : (r a : ℕ) → r ≤ suc a → mag (neg_ℤ (pos r)) ≤ a
negated zero a le = omega arith
negated (suc r) a le = omega arith

quotient_short : (x y : ℤ) → FitsSigned w64 x → IsShortResult (quotient x y)
quotient_short x (pos zero) s = tt
quotient_short (pos a) (pos (suc d)) s = record { sfits = omega (arith, div-le_self a (suc d), s.sfits) }
quotient_short (negsuc a) (pos (suc d)) s =
    record { sfits = omega (arith, negated (suc a / suc d) a (div-le_self (suc a) (suc d)), s.sfits) }
quotient_short (pos a) (negsuc zero) s = let l : a / 1 ≤ suc a = omega arith in
    record { sfits = omega (arith, negated (a / 1) a l, s.sfits) }
quotient_short (negsuc a) (negsuc zero) s = go (a == 2 ^ 63 - 1) refl
  where
    go : (b : Bool) → (a == 2 ^ 63 - 1) ≡ b
        → IsShortResult (if b then trapped Overflow else number (int_div (negsuc a) (negsuc zero)))
    go true e = tt
    go false e = let g = eqb-false a (2 ^ 63 - 1) e in record { sfits = omega (arith, s.sfits) }
quotient_short (pos a) (negsuc (suc d)) s =
    let l = div-le_self a (suc (suc d)) in
    record { sfits = omega (arith, negated (a / suc (suc d)) a (omega arith), s.sfits) }
quotient_short (negsuc a) (negsuc (suc d)) s =
    record { sfits = omega (arith, div-lt_self {n = suc a} {k = suc (suc d)} (omega arith) (omega arith), s.sfits) }

remainder_short : (x y : ℤ) → FitsSigned w64 x → IsShortResult (remainder x y)
remainder_short x (pos zero) s = tt
remainder_short x (pos (suc d)) s = record { sfits = omega (arith, mag_rem x (pos (suc d)), s.sfits) }
remainder_short x (negsuc d) s = record { sfits = omega (arith, mag_rem x (negsuc d), s.sfits) }

pub compute_short : (p : Prim) (x y : ℤ) → FitsSigned w64 x → IsShortResult (compute p x y)
compute_short Add x y s = SFits-int_wrap w64 _
compute_short Div x y s = quotient_short x y s
compute_short Mod x y s = remainder_short x y s
compute_short Eq x y s = tt
compute_short Lt x y s = tt
compute_short Le x y s = tt
compute_short e x y s = SFits-int_wrap w64 _

-- the value, if there is one, is short
abbrev pub EndsShort : Ended → Type 0
EndsShort (gives v left words) = HasShortKernelValue v
EndsShort (stops why) = Unit {0}

then_short : (n : ℕ) (a : Ended) (go : KernelValue → ℕ → ℕ → Ended) → AtMost n a → EndsShort a
    → ((v : KernelValue) (m h : ℕ) → m ≤ n → HasShortKernelValue v → EndsShort (go v m h)) → EndsShort (and_then a go)
then_short n (gives v m h) go le x g = g v m h le x
then_short n (stops why) go le x g = tt

taking_short : (w h : ℕ) (go : ℕ → Ended) → ((h : ℕ) → EndsShort (go h)) → EndsShort (taking w h go)
taking_short w h go g = with_room_short (nat_le (h + w) 524288)
  where
    with_room_short : (b : Bool) → EndsShort (with_room b (h + w) go)
    with_room_short true = g (h + w)
    with_room_short false = tt

spending_short : (n m : ℕ) → m ≤ n → (go : ℕ → Ended) → ((l : ℕ) → l < n → EndsShort (go l)) → EndsShort (spending m go)
spending_short n zero le go g = tt
spending_short n (suc m) le go g = g m le

entered_short : (u w : KernelValue) (go : KernelTerm → Ended) → HasShortKernelValue u → HasShortKernelValue w
    → ((e : KernelTerm) → HasShortKernelTerm e → EndsShort (go e)) → EndsShort (entered u w go)
entered_short (function e) w go x y g = g _ (instantiate_short e zero w x y)
entered_short (recursive e) w go x y g =
    g _ (instantiate_short (instantiate e 1 (recursive e)) zero w (instantiate_short e 1 (recursive e) x x) y)
entered_short _ w go x y g = tt

chosen_short : (v : KernelValue) (a b : KernelTerm) (go : KernelTerm → Ended) → EndsShort (go a) → EndsShort (go b)
    → EndsShort (chosen v a b go)
chosen_short (bool true) a b go x y = x
chosen_short (bool false) a b go x y = y
chosen_short _ a b go x y = tt

first_short : (v : KernelValue) (n h : ℕ) → HasShortKernelValue v → EndsShort (first_of_two v n h)
first_short (both u w) n h x = x.0
first_short _ n h x = tt

second_short : (v : KernelValue) (n h : ℕ) → HasShortKernelValue v → EndsShort (second_of_two v n h)
second_short (both u w) n h x = x.1
second_short _ n h x = tt

result_short : (r : PrimitiveResult) (n h : ℕ) → IsShortResult r → EndsShort (result_of r n h)
result_short (number z) n h x = x
result_short (fact b) n h x = tt
result_short (trapped t) n h x = tt

computed_short : (p : Prim) (u w : KernelValue) (n h : ℕ) → HasShortKernelValue u → EndsShort (computed p u w n h)
computed_short p (int x) (int y) n h s = result_short (compute p x y) n h (compute_short p x y s)
computed_short p _ _ n h s = tt

abbrev Goal : ℕ → KernelTerm → Type 0
Goal n e = (h : ℕ) → HasShortKernelTerm e → EndsShort (kernel_evaluation n h e)

step_short : (n : ℕ) (e : KernelTerm) → ((m : ℕ) (d : KernelTerm) → m < n → Goal m d)
    → ((m : ℕ) (d : KernelTerm) → m ≤ n → kernel_size d < kernel_size e → Goal m d)
    → (h : ℕ) → HasShortKernelTerm e → EndsShort (kernel_step kernel_evaluation kernel_evaluation n h e)
step_short n (num z) below parts h x = x
step_short n (truth b) below parts h x = tt
step_short n (var i) below parts h x = tt
step_short n (fun free e) below parts h x = taking_short (1 + free) h _ (λ h. x)
step_short n (fix free e) below parts h x = taking_short (1 + free) h _ (λ h. x)
step_short n (app f a) below parts h x =
    then_short n _ _ (kernel_evaluation_at_most n h f) (parts n f (omega arith) (omega arith) h x.0) λ u m h le y.
    then_short m _ _ (kernel_evaluation_at_most m h a) (parts m a le (omega arith) h x.1) λ w l h le' z.
    entered_short u w _ y z λ e s. spending_short n l (omega arith) _ λ k lt. below k e lt h s
step_short n (bind d e) below parts h x =
    then_short n _ _ (kernel_evaluation_at_most n h d) (parts n d (omega arith) (omega arith) h x.0) λ v m h le y.
    parts m (instantiate e zero v) le (omega (arith, fill_size e zero v)) h (instantiate_short e zero v x.1 y)
step_short n (cond c a b) below parts h x =
    then_short n _ _ (kernel_evaluation_at_most n h c) (parts n c (omega arith) (omega arith) h x.0) λ v m h le y.
    chosen_short v a b _ (parts m a le (omega arith) h x.1) (parts m b le (omega arith) h x.2)
step_short n (pair a b) below parts h x =
    then_short n _ _ (kernel_evaluation_at_most n h a) (parts n a (omega arith) (omega arith) h x.0) λ u m h le y.
    then_short m _ _ (kernel_evaluation_at_most m h b) (parts m b le (omega arith) h x.1) λ w l h le' z.
    taking_short 2 h _ (λ h. (y, z))
step_short n (fst e) below parts h x =
    then_short n _ _ (kernel_evaluation_at_most n h e) (parts n e (omega arith) (omega arith) h x) λ v m h le y.
    first_short v m h y
step_short n (snd e) below parts h x =
    then_short n _ _ (kernel_evaluation_at_most n h e) (parts n e (omega arith) (omega arith) h x) λ v m h le y.
    second_short v m h y
step_short n (prim p a b) below parts h x =
    then_short n _ _ (kernel_evaluation_at_most n h a) (parts n a (omega arith) (omega arith) h x.0) λ u m h le y.
    then_short m _ _ (kernel_evaluation_at_most m h b) (parts m b le (omega arith) h x.1) λ w l h le' z.
    computed_short p u w l h y
step_short n (done v) below parts h x = x

evaluation_short : (n : ℕ) (e : KernelTerm) → Goal n e
evaluation_short = kernel_induction Goal λ n e below parts h x. rw (kernel_evaluation-is n h e)
    (step_short n e below parts h x)

-- the value that code gives
pub meaning_short : (c : Expression) (n h : ℕ) → HasShortLiterals c → EndsShort (kernel_meaning n h c)
meaning_short c n h x = evaluation_short n (labelled c zero) h (labelled_short c zero x)

-- the value that a call of a function gives
pub call_short : (f w : KernelValue) (h k n : ℕ) → HasShortKernelValue f → HasShortKernelValue w
    → EndsShort (call_of f h (Some w) k n)
call_short f w h k n x y = taking_short k h _ λ h. entered_short f w _ x y λ e s. spending_short n n (omega arith) _
    λ m lt. evaluation_short m e h s
