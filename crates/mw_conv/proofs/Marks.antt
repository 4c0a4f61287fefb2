-- Marks of levels.
use Rattle.std.proofs.Common.{◌≡◌, ◌⊎◌, inl, inr, ℕ, zero, suc, ◌+◌, ◌-◌, ◌<◌, ◌≤◌, Bool, true, false, List, [], ◌∷◌}
use Rattle.std.proofs.Common.{◌++◌, length, set, replicate, refl, ap, ◌∙◌, sym, arith, append_assoc, length-append}
use Rattle.std.specs.Prelude.{◌||◌, ◌==◌}
use Rattle.std.proofs.lemmas.Bool.{ne_eqb, eqb-true, eqb-false}
use Rattle.std.proofs.lemmas.List.{length-replicate, set_at, set_past}
use Rattle.mw_term.specs.Terms as x
use Rattle.mw_term.specs.Terms.{Expression, size}
use Rattle.mw_meaning.specs.KernelMeaning.{occurs}
use Rattle.mw_conv.specs.declared.found.FoundFunction.{FoundFunction}
use Rattle.mw_conv.specs.Convert.{kept, lets}
use Rattle.mw_conv.specs.Finding.{joined, marked, marking, levels, all_found, function_found}

-- from either of two facts
pub either : {A B C : Type 0} → A ⊎ B → (A → C) → (B → C) → C
either (inl a) f g = f a
either (inr b) f g = g b

pub joined_length : (bs : List Bool) (p : ℕ → Bool) → length (joined bs p) ≡ length bs
joined_length [] p = refl
joined_length (b ∷ bs) p = ap suc (joined_length bs p)

or_false : (b : Bool) → b || false ≡ b
or_false true = refl
or_false false = refl

or_true : (b : Bool) → b || true ≡ true
or_true true = refl
or_true false = refl

or_assoc : (a b c : Bool) → (a || b) || c ≡ a || (b || c)
or_assoc true b c = refl
or_assoc false b c = refl

pub joined_none : (bs : List Bool) (p : ℕ → Bool) → ((i : ℕ) → i < length bs → p i ≡ false) → joined bs p ≡ bs
joined_none [] p h = refl
joined_none (b ∷ bs) p h = rw (h (length bs) (omega arith), or_false b, joined_none bs p (λ i lt. h i (omega arith)))
    refl

pub unmarked : (bs : List Bool) → bs ≡ joined bs (λ i. false)
unmarked bs = sym (joined_none bs (λ i. false) (λ i lt. refl))

joined_same : (bs : List Bool) (p q : ℕ → Bool) → ((i : ℕ) → i < length bs → p i ≡ q i) → joined bs p ≡ joined bs q
joined_same [] p q h = refl
joined_same (b ∷ bs) p q h = rw (h (length bs) (omega arith), joined_same bs p q (λ i lt. h i (omega arith))) refl

joined_again : (bs : List Bool) (p q : ℕ → Bool) → joined (joined bs p) q ≡ joined bs (λ i. p i || q i)
joined_again [] p q = refl
joined_again (b ∷ bs) p q = rw (joined_length bs p, or_assoc b (p (length bs)) (q (length bs)), joined_again bs p q)
    refl

-- two walks
pub joined_twice : (m0 m1 m2 : List Bool) (p q : ℕ → Bool) → m1 ≡ joined m0 p → m2 ≡ joined m1 q
    → m2 ≡ joined m0 (λ i. p i || q i)
joined_twice m0 m1 m2 p q e f = f ∙ ap (λ m. joined m q) e ∙ joined_again m0 p q

-- one variable
pub set_joined : (bs : List Bool) (n u v : ℕ) → n ≡ length bs → u ≤ v → v - u < n → set bs (n - 1 - (v - u)) true
    ≡ joined bs (λ i. v == u + i)
set_joined [] n u v len le lt = absurd (omega arith)
set_joined (b ∷ bs) n u v len le lt = go (v == u + length bs) refl (λ lt'. set_joined bs (length bs) u v refl le lt')
  where
    go : (z : Bool) → (v == u + length bs) ≡ z
        → (v - u < length bs → set bs (length bs - 1 - (v - u)) true ≡ joined bs (λ i. v == u + i))
        → set (b ∷ bs) (n - 1 - (v - u)) true ≡ joined (b ∷ bs) (λ i. v == u + i)
    go true e f =
        let q : v ≡ u + length bs = eqb-true v (u + length bs) e in
        let k : n - 1 - (v - u) ≡ 0 = omega arith in
        rw (k, e, or_true b, joined_none bs (λ i. v == u + i) (λ i lt. ne_eqb v (u + i) (λ f. omega arith))) refl
    go false e f =
        let ne : v ≡ u + length bs → ⊥ = eqb-false v (u + length bs) e in
        let lt' : v - u < length bs = omega arith in
        let k : n - 1 - (v - u) ≡ suc (length bs - 1 - (v - u)) = omega arith in
        rw (k, e, or_false b, ← f lt') refl

-- a list of marks with none, and then one at each variable with p
pub marked_levels : (d : ℕ) (p : ℕ → Bool) (l : ℕ) → marked (joined (replicate d false) p) l ≡ levels d p l
marked_levels zero p l = refl
marked_levels (suc d) p l = rw (length-replicate d false, marked_levels d p (suc l)) refl

past_all : (bs : List Bool) (d : ℕ) (p : ℕ → Bool) (l : ℕ) → length bs ≤ l → marking bs (levels d p l) ≡ bs
past_all bs zero p l le = refl
past_all bs (suc d) p l le = go (p d) (past_all bs d p (suc l) (omega arith))
  where
    go : (z : Bool) → marking bs (levels d p (suc l)) ≡ bs → marking bs (kept z l (levels d p (suc l))) ≡ bs
    go true h = ap (λ (z : List Bool). marking z (levels d p (suc l))) (set_past bs l true le) ∙ h
    go false h = h

-- after a front that is done
marking_behind : (front bs : List Bool) (u : ℕ) (p : ℕ → Bool)
    → marking (front ++ bs) (levels (length bs + u) p (length front)) ≡ front ++ joined bs (λ i. p (u + i))
marking_behind front [] u p = past_all (front ++ []) (0 + u) p (length front) (omega (arith, length-append front []))
marking_behind front (b ∷ bs) u p =
    let e : length (b ∷ bs) + u ≡ suc (length bs + u) = omega arith in
    let f : length bs + u ≡ u + length bs = omega arith in
    let next = λ (c : Bool).
    (let l : length (front ++ c ∷ []) ≡ suc (length front) = omega (arith, length-append front (c ∷ [])) in
    rw (append_assoc front (c ∷ []) bs, append_assoc front (c ∷ []) (joined bs (λ i. p (u + i))), l) at
    (marking_behind (front ++ c ∷ []) bs u p)) in
    rw e (go (p (length bs + u)) (ap p f) next)
  where
    go : (z : Bool) → z ≡ p (u + length bs)
        → ((c : Bool) → marking (front ++ c ∷ bs) (levels (length bs + u) p (suc (length front))) ≡ front
        ++ (c ∷ joined bs (λ i. p (u + i))))
        → marking (front ++ b ∷ bs) (kept z (length front) (levels (length bs + u) p (suc (length front)))) ≡ front
        ++ ((b || p (u + length bs)) ∷ joined bs (λ i. p (u + i)))
    go true e next = ap (λ (z : List Bool). marking z (levels (length bs + u) p (suc (length front))))
        (set_at front b bs true (length front) refl) ∙ rw (← e, or_true b) (next true)
    go false e next = rw (← e, or_false b) (next b)

-- the variables of a function that stand under u binders more than have marks
pub marking_joined : (bs : List Bool) (u : ℕ) (p : ℕ → Bool) → marking bs (levels (length bs + u) p 0)
    ≡ joined bs (λ i. p (u + i))
marking_joined bs u p = marking_behind [] bs u p

pub lets_few : (e : Expression) → lets e ≤ size e
lets_few (x.app f a) = omega (arith, lets_few f, lets_few a)
lets_few (x.bind a e) = omega (arith, lets_few a, lets_few e)
lets_few (x.cond c a b) = omega (arith, lets_few c, lets_few a, lets_few b)
lets_few (x.pair f a) = omega (arith, lets_few f, lets_few a)
lets_few (x.fst e) = omega (arith, lets_few e)
lets_few (x.snd e) = omega (arith, lets_few e)
lets_few (x.prim p f a) = omega (arith, lets_few f, lets_few a)
lets_few _ = omega arith

-- a let, whose second part stands under one binder more
pub let_marks : (d e : Expression) (m0 m1 m2 : List Bool) (u : ℕ) → m1 ≡ joined m0 (λ i. occurs d (u + i))
    → m2 ≡ joined m1 (λ i. occurs e (u + 1 + i)) → m2 ≡ joined m0 (λ i. occurs d (u + i) || occurs e (suc (u + i)))
let_marks d e m0 m1 m2 u f g = joined_twice m0 m1 m2 (λ i. occurs d (u + i)) (λ i. occurs e (suc (u + i))) f
    (g ∙ joined_same m1 _ _ (λ i lt. ap (occurs e) (let q : u + 1 + i ≡ suc (u + i) = omega arith in q)))

-- the levels of a function's free variables, where d binders stand outside
pub function_levels : (e : Expression) (own d : ℕ) (m0 m1 : List Bool) → m0 ≡ replicate d false
    → m1 ≡ joined m0 (λ i. occurs e (own + i)) → marked m1 0 ≡ levels d (λ i. occurs e (own + i)) 0
function_levels e own d m0 m1 f g = ap (λ (m : List Bool). marked m 0)
    (g ∙ ap (λ (m : List Bool). joined m (λ i. occurs e (own + i))) f) ∙ marked_levels d (λ i. occurs e (own + i)) 0

pub function_marks : (e : Expression) (own u : ℕ) (bs m0 m1 m2 : List Bool) → m0 ≡ replicate (length bs + u) false
    → m1 ≡ joined m0 (λ i. occurs e (own + i)) → m2 ≡ marking bs (marked m1 0)
    → m2 ≡ joined bs (λ i. occurs e (own + (u + i)))
function_marks e own u bs m0 m1 m2 f g h =
    h ∙ ap (λ ls. marking bs ls) (function_levels e own (length bs + u) m0 m1 f g)
    ∙ marking_joined bs u (λ i. occurs e (own + i))

pub function_is_found : (e : Expression) (own d : ℕ) (f0 f1 f2 : List FoundFunction) (slots : ℕ) (free : List ℕ)
    (m0 m1 : List Bool) → m0 ≡ replicate d false → m1 ≡ joined m0 (λ i. occurs e (own + i))
    → f1 ≡ f0 ++ all_found e (length m0 + own) → slots ≡ lets e → free ≡ marked m1 0
    → f2 ≡ f1 ++ record { slots = slots; free = free } ∷ []
    → f2 ≡ f0 ++ (all_found e (d + own) ++ function_found e d (λ i. occurs e (own + i)) ∷ [])
function_is_found e own d f0 f1 f2 slots free m0 m1 f g h k l m =
    let n : length m0 ≡ d = ap length f ∙ length-replicate d false in
    let r : free ≡ levels d (λ i. occurs e (own + i)) 0 = l ∙ function_levels e own d m0 m1 f g in
    let last : (b : ℕ) → b ≡ d → f1 ≡ f0 ++ all_found e (b + own)
    → f2 ≡ f0 ++ (all_found e (d + own) ++ function_found e d (λ i. occurs e (own + i)) ∷ []) = λ b q h. m
    ∙ rw (h, q, k, r) (append_assoc f0 (all_found e (d + own)) _) in
    last (length m0) n h
