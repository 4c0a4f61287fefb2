-- The meaning of the intermediate language is one step over itself, whatever the bound on calls.
use Rattle.std.proofs.Common.{◌≡◌, ℕ, zero, suc, ◌+◌, ◌≤◌, ◌<◌, Bool, true, false, List, [], ◌∷◌, length, Option, Some}
use Rattle.std.proofs.Common.{None, refl, subst, arith}
use Rattle.std.specs.Prelude.{ℤ, pos, negsuc, nat_le, ◌==◌}
use Rattle.mw_meaning.specs.Arithmetic.{PrimitiveResult, number, fact, trapped, compute}
use Rattle.mw_ir.specs.Ir.{Ir, num, truth, get, closure, app, bind, cond, pair, fst, snd, prim, IrFunc, Frame, inside}
use Rattle.mw_ir.specs.Ir.{with_slot, load, read, read_all, Ended, gives, stops, and_then, found, with_room, spending}
use Rattle.mw_ir.specs.Ir.{function_at, chosen, result_of, in_turn, Evaluates, value, calls, means}

abbrev pub AtMost : ℕ → Ended → Type 0
AtMost n (gives w m h) = m ≤ n
AtMost n (stops y) = Unit {0}

-- the same answer, with at most n units left
pub record Agree (n : ℕ) (a b : Ended) : Type 0 where
  pub same : a ≡ b
  pub at_most : AtMost n a

at_most_more : (n m : ℕ) (a : Ended) → m ≤ n → AtMost m a → AtMost n a
at_most_more n m (gives w l h) le p = omega arith
at_most_more n m (stops y) le p = tt

more : (n m : ℕ) (a b : Ended) → m ≤ n → Agree m a b → Agree n a b
more n m a b le g = record { same = g.same; at_most = at_most_more n m a le g.at_most }

itself : (n : ℕ) (a : Ended) → AtMost n a → Agree n a a
itself n a h = record { same = refl; at_most = h }

then_itself : (n : ℕ) (a : Ended) (go to : ℤ → ℕ → List ℤ → Ended) → AtMost n a
    → ((w : ℤ) (m : ℕ) (h : List ℤ) → m ≤ n → Agree n (go w m h) (to w m h)) → Agree n (and_then a go) (and_then a to)
then_itself n (gives w m h) go to p g = g w m h p
then_itself n (stops y) go to p g = itself n (stops y) tt

then_agree : (n : ℕ) (a b : Ended) (go to : ℤ → ℕ → List ℤ → Ended) → Agree n a b
    → ((w : ℤ) (m : ℕ) (h : List ℤ) → m ≤ n → Agree n (go w m h) (to w m h)) → Agree n (and_then a go) (and_then b to)
then_agree n a b go to p g = subst (λ x. Agree n (and_then a go) (and_then x to)) p.same
    (then_itself n a go to p.at_most g)

found_agree : {A : Type 0} (n : ℕ) (o : Option A) (go to : A → Ended) → ((x : A) → Agree n (go x) (to x))
    → Agree n (found o go) (found o to)
found_agree n None go to g = itself n _ tt
found_agree n (Some x) go to g = g x

room_at_most : (n : ℕ) (b : Bool) (e : Ended) → AtMost n e → AtMost n (with_room b e)
room_at_most n true e h = h
room_at_most n false e h = tt

chosen_agree : (n : ℕ) (w : ℤ) (a b c d : Ended) → Agree n a c → Agree n b d → Agree n (chosen w a b) (chosen w c d)
chosen_agree n (pos zero) a b c d p q = q
chosen_agree n (pos (suc zero)) a b c d p q = p
chosen_agree n (pos (suc (suc w))) a b c d p q = itself n _ tt
chosen_agree n (negsuc w) a b c d p q = itself n _ tt

result_at_most : (n l : ℕ) (r : PrimitiveResult) (h : List ℤ) → l ≤ n → AtMost n (result_of r l h)
result_at_most n l (number z) h le = le
result_at_most n l (fact b) h le = le
result_at_most n l (trapped t) h le = tt

turn_agree : (n : ℕ) (b : Bool) (a c : Ended) → Agree n a c → Agree n (in_turn b a) (in_turn b c)
turn_agree n true a c g = g
turn_agree n false a c g = itself n _ tt

spending_agree : (n l : ℕ) → l ≤ n → (go to : ℕ → Ended) → ((k : ℕ) → k < n → Agree n (go k) (to k))
    → Agree n (spending l go) (spending l to)
spending_agree n zero le go to g = itself n _ tt
spending_agree n (suc l) le go to g = g l le

module _ (t : List IrFunc) where
  value_agree : (n : ℕ) (again again' : Evaluates)
      → ((l : ℕ) (h : List ℤ) (fr : Frame) (e : Ir) → l < n → Agree n (again l h fr e) (again' l h fr e))
      → (e : Ir) (l : ℕ) (h : List ℤ) (fr : Frame) → l ≤ n → Agree n (value t again e l h fr) (value t again' e l h fr)
  value_agree n again again' below (num z) l h fr le = itself n _ le
  value_agree n again again' below (truth z) l h fr le = itself n _ le
  value_agree n again again' below (get p) l h fr le = found_agree n (read h fr p) _ _ λ w. itself n _ le
  value_agree n again again' below (closure k ps) l h fr le = found_agree n (read_all h fr ps) _ _ λ ws.
      itself n _ (room_at_most n (nat_le (length h + length (pos k ∷ ws)) 524288) _ le)
  value_agree n again again' below (app f a) l h fr le =
      then_agree n _ _ _ _ (value_agree n again again' below f l h fr le) λ u l h le.
      then_agree n _ _ _ _ (value_agree n again again' below a l h fr le) λ w l h le.
      found_agree n (load h u 0) _ _ λ z. found_agree n (function_at t z) _ _ λ g. spending_agree n l le _ _ λ k lt.
      below k h (inside u w) g.body lt
  value_agree n again again' below (bind s d e) l h fr le = turn_agree n (length fr.slots == s) _ _
      (then_agree n _ _ _ _ (value_agree n again again' below d l h fr le) λ w l h le. value_agree n again again' below
      e l h (with_slot fr w) le)
  value_agree n again again' below (cond c a b) l h fr le =
      then_agree n _ _ _ _ (value_agree n again again' below c l h fr le) λ w l h le.
      chosen_agree n w _ _ _ _ (value_agree n again again' below a l h fr le)
      (value_agree n again again' below b l h fr le)
  value_agree n again again' below (pair a b) l h fr le =
      then_agree n _ _ _ _ (value_agree n again again' below a l h fr le) λ u l h le.
      then_agree n _ _ _ _ (value_agree n again again' below b l h fr le) λ w l h le.
      itself n _ (room_at_most n (nat_le (length h + length (u ∷ w ∷ [])) 524288) _ le)
  value_agree n again again' below (fst e) l h fr le =
      then_agree n _ _ _ _ (value_agree n again again' below e l h fr le) λ w l h le. found_agree n (load h w 0) _ _
      λ u. itself n _ le
  value_agree n again again' below (snd e) l h fr le =
      then_agree n _ _ _ _ (value_agree n again again' below e l h fr le) λ w l h le. found_agree n (load h w 1) _ _
      λ u. itself n _ le
  value_agree n again again' below (prim p a b) l h fr le =
      then_agree n _ _ _ _ (value_agree n again again' below a l h fr le) λ u l h le.
      then_agree n _ _ _ _ (value_agree n again again' below b l h fr le) λ w l h le.
      itself n _ (result_at_most n l (compute p u w) h le)

  calls_agree : (b c n : ℕ) (h : List ℤ) (fr : Frame) (e : Ir) → n < b → n < c
      → Agree n (calls t b n h fr e) (calls t c n h fr e)
  calls_agree zero c n h fr e p q = absurd (omega arith)
  calls_agree (suc b) zero n h fr e p q = absurd (omega arith)
  calls_agree (suc b) (suc c) n h fr e p q =
      value_agree n _ _
      (λ l h fr e lt. more n l _ _ (omega arith) (calls_agree b c l h fr e (omega arith) (omega arith))) e n h fr
      (omega arith)

  -- a body within any bound that is enough
  calls_mean : (b n : ℕ) (h : List ℤ) (fr : Frame) (e : Ir) → n < b → Agree n (calls t b n h fr e) (means t n h fr e)
  unfolding means
  calls_mean zero n h fr e p = absurd (omega arith)
  calls_mean (suc b) n h fr e p =
      value_agree n _ _ (λ l h fr e lt. more n l _ _ (omega arith) (calls_agree b n l h fr e (omega arith) lt)) e n h fr
      (omega arith)

  pub value_means : (b n : ℕ) (h : List ℤ) (fr : Frame) (e : Ir) → n ≤ b
      → Agree n (value t (λ n h fr e. calls t b n h fr e) e n h fr) (value t (means t) e n h fr)
  value_means b n h fr e le =
      value_agree n _ _ (λ l h fr e lt. more n l _ _ (omega arith) (calls_mean b l h fr e (omega arith))) e n h fr
      (omega arith)

  -- the meaning is one form of it over itself
  pub means-is : (n : ℕ) (h : List ℤ) (fr : Frame) (e : Ir) → means t n h fr e ≡ value t (means t) e n h fr
  unfolding means
  means-is n h fr e =
      (value_agree n _ _ (λ l h fr e lt. more n l _ _ (omega arith) (calls_mean n l h fr e lt)) e n h fr
      (omega arith)).same

  pub means_at_most : (n : ℕ) (h : List ℤ) (fr : Frame) (e : Ir) → AtMost n (means t n h fr e)
  unfolding means
  means_at_most n h fr e =
      (value_agree n _ _ (λ l h fr e lt. more n l _ _ (omega arith) (calls_mean n l h fr e lt)) e n h fr
      (omega arith)).at_most
