-- With other units code gives the same value and takes as many words, where it gives one.
use Rattle.std.proofs.Common.{◌≡◌, ℕ, zero, suc, ◌+◌, ◌-◌, ◌≤◌, ◌<◌, ◌⊎◌, inl, inr, Bool, true, false, refl, sym, ◌∙◌}
use Rattle.std.proofs.Common.{subst, arith}
use Rattle.std.specs.Prelude.{nat_le}
use Rattle.std.proofs.lemmas.Bool.{cases_lt}
use Rattle.mw_term.specs.Terms.{Expression, KernelTerm, KernelValue, num, truth, var, fun, fix, app, bind, cond, pair}
use Rattle.mw_term.specs.Terms.{fst, snd, prim, done, int}
use Rattle.mw_term.specs.Terms.{bool, both, function, recursive}
use Rattle.mw_term.specs.declared.term.Primitive.{Primitive as Prim}
use Rattle.mw_term.specs.Substitution.{instantiate}
use Rattle.mw_meaning.specs.Arithmetic.{PrimitiveResult, number, fact, trapped, compute}
use Rattle.mw_meaning.specs.KernelMeaning.{Ended, gives, stops, and_then, taking, with_room, spending, entered, chosen}
use Rattle.mw_meaning.specs.KernelMeaning.{first_of_two, second_of_two}
use Rattle.mw_meaning.specs.KernelMeaning.{result_of, computed, kernel_step, kernel_evaluation, kernel_meaning}
use Rattle.mw_meaning.specs.KernelMeaning.{kernel_size, labelled}
use Rattle.mw_meaning.proofs.KernelFixedPoint.{AtMost, fill_size, kernel_evaluation-is, kernel_evaluation_at_most}
use Rattle.mw_meaning.proofs.Inductions.{kernel_induction}

-- where the first gives a value, the second gives it too, takes as many words and has k units more left
abbrev Extends : ℕ → Ended → Ended → Type 0
Extends k (gives v left words) b = b ≡ gives v (k + left) words
Extends k (stops why) b = Unit {0}

then_extends : (k n : ℕ) (a b : Ended) (go to : KernelValue → ℕ → ℕ → Ended) → AtMost n a → Extends k a b
    → ((v : KernelValue) (m h : ℕ) → m ≤ n → Extends k (go v m h) (to v (k + m) h))
    → Extends k (and_then a go) (and_then b to)
then_extends k n (gives v m h) b go to le e g = rw e (g v m h le)
then_extends k n (stops why) b go to le e g = tt

taking_extends : (k w h : ℕ) (go to : ℕ → Ended) → ((h : ℕ) → Extends k (go h) (to h))
    → Extends k (taking w h go) (taking w h to)
taking_extends k w h go to g = with_room_extends (nat_le (h + w) 524288)
  where
    with_room_extends : (b : Bool) → Extends k (with_room b (h + w) go) (with_room b (h + w) to)
    with_room_extends true = g (h + w)
    with_room_extends false = tt

spending_extends : (k n m : ℕ) → m ≤ n → (go to : ℕ → Ended)
    → ((l : ℕ) → l < n → Extends k (go l) (to (k + l))) → Extends k (spending m go) (spending (k + m) to)
spending_extends k n zero le go to g = tt
spending_extends k n (suc m) le go to g = let e : k + suc m ≡ suc (k + m) = omega arith in rw e (g m le)

entered_extends : (k : ℕ) (u w : KernelValue) (go to : KernelTerm → Ended)
    → ((e : KernelTerm) → Extends k (go e) (to e)) → Extends k (entered u w go) (entered u w to)
entered_extends k (function e) w go to g = g _
entered_extends k (recursive e) w go to g = g _
entered_extends k _ w go to g = tt

chosen_extends : (k : ℕ) (v : KernelValue) (a b : KernelTerm) (go to : KernelTerm → Ended)
    → Extends k (go a) (to a) → Extends k (go b) (to b) → Extends k (chosen v a b go) (chosen v a b to)
chosen_extends k (bool true) a b go to p q = p
chosen_extends k (bool false) a b go to p q = q
chosen_extends k _ a b go to p q = tt

first_extends : (k : ℕ) (v : KernelValue) (m h : ℕ) → Extends k (first_of_two v m h) (first_of_two v (k + m) h)
first_extends k (both u w) m h = refl
first_extends k _ m h = tt

second_extends : (k : ℕ) (v : KernelValue) (m h : ℕ) → Extends k (second_of_two v m h) (second_of_two v (k + m) h)
second_extends k (both u w) m h = refl
second_extends k _ m h = tt

result_extends : (k : ℕ) (r : PrimitiveResult) (m h : ℕ) → Extends k (result_of r m h) (result_of r (k + m) h)
result_extends k (number z) m h = refl
result_extends k (fact b) m h = refl
result_extends k (trapped t) m h = tt

computed_extends : (k : ℕ) (p : Prim) (u w : KernelValue) (m h : ℕ)
    → Extends k (computed p u w m h) (computed p u w (k + m) h)
computed_extends k p (int x) (int y) m h = result_extends k (compute p x y) m h
computed_extends k p _ _ m h = tt

module _ (k : ℕ) where
  abbrev Goal : ℕ → KernelTerm → Type 0
  Goal n e = (h : ℕ) → Extends k (kernel_evaluation n h e) (kernel_evaluation (k + n) h e)

  step_extends : (n : ℕ) (e : KernelTerm) → ((m : ℕ) (d : KernelTerm) → m < n → Goal m d)
      → ((m : ℕ) (d : KernelTerm) → m ≤ n → kernel_size d < kernel_size e → Goal m d)
      → (h : ℕ) → Extends k (kernel_step kernel_evaluation kernel_evaluation n h e)
      (kernel_step kernel_evaluation kernel_evaluation (k + n) h e)
  step_extends n (num i) below parts h = refl
  step_extends n (truth i) below parts h = refl
  step_extends n (var i) below parts h = tt
  step_extends n (fun f e) below parts h = taking_extends k (1 + f) h _ _ (λ h. refl)
  step_extends n (fix f e) below parts h = taking_extends k (1 + f) h _ _ (λ h. refl)
  step_extends n (app f a) below parts h =
      then_extends k n _ _ _ _ (kernel_evaluation_at_most n h f) (parts n f (omega arith) (omega arith) h) λ u m h le.
      then_extends k m _ _ _ _ (kernel_evaluation_at_most m h a) (parts m a le (omega arith) h) λ w l h le'.
      entered_extends k u w _ _ λ e. spending_extends k n l (omega arith) _ _ λ l lt. below l e lt h
  step_extends n (bind d e) below parts h =
      then_extends k n _ _ _ _ (kernel_evaluation_at_most n h d) (parts n d (omega arith) (omega arith) h) λ v m h le.
      parts m (instantiate e zero v) le (omega (arith, fill_size e zero v)) h
  step_extends n (cond c a b) below parts h =
      then_extends k n _ _ _ _ (kernel_evaluation_at_most n h c) (parts n c (omega arith) (omega arith) h) λ v m h le.
      chosen_extends k v a b _ _ (parts m a le (omega arith) h) (parts m b le (omega arith) h)
  step_extends n (pair a b) below parts h =
      then_extends k n _ _ _ _ (kernel_evaluation_at_most n h a) (parts n a (omega arith) (omega arith) h) λ u m h le.
      then_extends k m _ _ _ _ (kernel_evaluation_at_most m h b)
      (parts m b le (omega arith) h) λ w l h le'. taking_extends k 2 h _ _ (λ h. refl)
  step_extends n (fst e) below parts h =
      then_extends k n _ _ _ _ (kernel_evaluation_at_most n h e)
      (parts n e (omega arith) (omega arith) h) λ v m h le. first_extends k v m h
  step_extends n (snd e) below parts h =
      then_extends k n _ _ _ _ (kernel_evaluation_at_most n h e)
      (parts n e (omega arith) (omega arith) h) λ v m h le. second_extends k v m h
  step_extends n (prim q a b) below parts h =
      then_extends k n _ _ _ _ (kernel_evaluation_at_most n h a) (parts n a (omega arith) (omega arith) h) λ u m h le.
      then_extends k m _ _ _ _ (kernel_evaluation_at_most m h b)
      (parts m b le (omega arith) h) λ w l h le'. computed_extends k q u w l h
  step_extends n (done v) below parts h = refl

  evaluation_extends : (n : ℕ) (e : KernelTerm) → Goal n e
  evaluation_extends = kernel_induction Goal λ n e below parts h.
      rw (kernel_evaluation-is n h e, kernel_evaluation-is (k + n) h e) (step_extends n e below parts h)

-- more units change nothing of a value but the units that are left
pub more_units : (e : KernelTerm) (n k h : ℕ) (v : KernelValue) (left words : ℕ)
    → kernel_evaluation n h e ≡ gives v left words → kernel_evaluation (k + n) h e ≡ gives v (k + left) words
more_units e n k h v left words g = subst (λ a. Extends k a (kernel_evaluation (k + n) h e)) g
    (evaluation_extends k n e h)

same_ends : (v w : KernelValue) (left rest words taken : ℕ) → gives v left words ≡ gives w rest taken → (v ≡ w)
    × (words ≡ taken)
same_ends v w left rest words taken e = (cc, cc)

one_value_from : (c : Expression) (m n : ℕ) (v w : KernelValue) (left rest words taken : ℕ) → m ≤ n
    → kernel_meaning m 0 c ≡ gives v left words → kernel_meaning n 0 c ≡ gives w rest taken → (v ≡ w) × (words ≡ taken)
one_value_from c m n v w left rest words taken le a b =
    let k = n - m in
    let sum : k + m ≡ n = omega arith in
    let more = subst (λ x. kernel_meaning x 0 c ≡ gives v (k + left) words) sum
    (more_units (labelled c zero) m k 0 v left words a) in
    same_ends v w (k + left) rest words taken (sym more ∙ b)

-- THE LEMMA
pub one_value : (c : Expression) (m n : ℕ) (v w : KernelValue) (left rest words taken : ℕ)
    → kernel_meaning m 0 c ≡ gives v left words → kernel_meaning n 0 c ≡ gives w rest taken → (v ≡ w) × (words ≡ taken)
one_value c m n v w left rest words taken a b = by (cases_lt m n)
  where
    swapped : (w ≡ v) × (taken ≡ words) → (v ≡ w) × (words ≡ taken)
    swapped p = (sym p.0, sym p.1)

    by : (m < n) ⊎ (n ≤ m) → (v ≡ w) × (words ≡ taken)
    by (inl lt) = one_value_from c m n v w left rest words taken (omega arith) a b
    by (inr le) = swapped (one_value_from c n m w v rest left taken words le b a)
