-- Marks of the binders that are named in a term, and places in lists that stand one after the other.
use Rattle.std.proofs.Common.{◌≡◌, ℕ, zero, suc, ◌+◌, ◌-◌, ◌≤◌, ◌<◌, List, [], ◌∷◌, ◌++◌, length, set, Some, refl, ap}
use Rattle.std.proofs.Common.{◌∙◌, sym, get_or, true, false, inl, inr, arith}
use Rattle.std.specs.Prelude.{Bool, ◌||◌, ◌==◌, ◌⊎◌, slice_get, slice_index_or, replicate}
use Rattle.std.proofs.lemmas.List.{length-replicate}
use Rattle.mw_infer.specs.Occurring.{marked}

-- Places.

pub get-first : {A : Type 0} (xs ys : List A) (k : ℕ) (x : A) → slice_get xs k ≡ Some x
    → slice_get (xs ++ ys) k ≡ Some x
get-first [] ys k x e = absurd (cc)
get-first (y ∷ xs) ys zero x e = e
get-first (y ∷ xs) ys (suc k) x e = get-first xs ys k x e

pub get-second : {A : Type 0} (xs ys : List A) (k n : ℕ) (x : A) → k ≡ length xs + n → slice_get ys n ≡ Some x
    → slice_get (xs ++ ys) k ≡ Some x
get-second [] ys k n x p e = let q : k ≡ n = omega (arith, p) in rw q e
get-second (y ∷ xs) ys zero n x p e = absurd (omega (arith, p))
get-second (y ∷ xs) ys (suc k) n x p e = get-second xs ys k n x (omega (arith, p)) e

-- Marks.

or-false : (b : Bool) → (b || false) ≡ b
or-false true = refl
or-false false = refl

or-true : (b : Bool) → (b || true) ≡ true
or-true true = refl
or-true false = refl

or-both : (a b c : Bool) → ((a || b) || c) ≡ (a || (b || c))
or-both true b c = refl
or-both false b c = refl

pub marked-none : (n : ℕ) (ms : List Bool) → marked (λ k. false) n ms ≡ ms
marked-none n [] = refl
marked-none n (m ∷ ms) = rw (or-false m) (ap (λ z. m ∷ z) (marked-none (suc n) ms))

-- one binder further out
marked-next : (p : ℕ → Bool) (n : ℕ) (ms : List Bool) → marked p (suc n) ms ≡ marked (λ k. p (suc k)) n ms
marked-next p n [] = refl
marked-next p n (m ∷ ms) = ap (λ z. (m || p (suc n)) ∷ z) (marked-next p (suc n) ms)

pub marked-in-one : (p : ℕ → Bool) (n : ℕ) (ms : List Bool) → marked p (n + 1) ms ≡ marked (λ k. p (suc k)) n ms
marked-in-one p n ms = let e : n + 1 ≡ suc n = omega arith in rw e (marked-next p n ms)

pub marked-in-two : (p : ℕ → Bool) (n : ℕ) (ms : List Bool)
    → marked p (n + 2) ms ≡ marked (λ k. p (suc (suc k))) n ms
marked-in-two p n ms = let e : n + 2 ≡ suc (suc n) = omega arith in
    rw e (marked-next p (suc n) ms ∙ marked-next (λ k. p (suc k)) n ms)

pub marked-both : (p q : ℕ → Bool) (n : ℕ) (ms : List Bool)
    → marked q n (marked p n ms) ≡ marked (λ k. p k || q k) n ms
marked-both p q n [] = refl
marked-both p q n (m ∷ ms) = rw (or-both m (p n) (q n)) (ap (λ z. (m || (p n || q n)) ∷ z) (marked-both p q (suc n) ms))

equal-not : (i n : ℕ) → (i ≡ n → ⊥) → (i == n) ≡ false
equal-not i n h = grind arith

equal-is : (i n : ℕ) → i ≡ n → (i == n) ≡ true
equal-is i n e = grind arith

-- the mark of one number, where it is before the first and where it is the k-th
marked-before : (i n : ℕ) (ms : List Bool) → i < n → marked (λ k. i == k) n ms ≡ ms
marked-before i n [] lt = refl
marked-before i n (m ∷ ms) lt = rw (equal-not i n (λ e. omega (arith, e)), or-false m)
    (ap (λ z. m ∷ z) (marked-before i (suc n) ms (omega arith)))

marked-at : (i n k : ℕ) (ms : List Bool) → i ≡ n + k → k < length ms → marked (λ j. i == j) n ms ≡ set ms k true
marked-at i n k [] e lt = absurd (omega arith)
marked-at i n zero (m ∷ ms) e lt = let q : i ≡ n = omega (arith, e) in
    rw (equal-is i n q, or-true m) (ap (λ z. true ∷ z) (marked-before i (suc n) ms (omega arith)))
marked-at i n (suc k) (m ∷ ms) e lt = rw (equal-not i n (λ q. omega (arith, e, q)), or-false m)
    (ap (λ z. m ∷ z) (marked-at i (suc n) k ms (omega (arith, e)) (omega arith)))

marked-past : (i n : ℕ) (ms : List Bool) → n + length ms ≤ i → marked (λ k. i == k) n ms ≡ ms
marked-past i n [] lt = refl
marked-past i n (m ∷ ms) lt = rw (equal-not i n (λ e. omega (arith, e)), or-false m)
    (ap (λ z. m ∷ z) (marked-past i (suc n) ms (omega arith)))

pub mark-here : (i n : ℕ) (ms : List Bool) → n ≤ i → i - n < length ms
    → set ms (i - n) true ≡ marked (λ k. i == k) n ms
mark-here i n ms low lt = sym (marked-at i n (i - n) ms (omega arith) lt)

pub mark-nowhere : (i n : ℕ) (ms : List Bool) → (i < n) ⊎ ((n ≤ i) × (length ms ≤ i - n))
    → ms ≡ marked (λ k. i == k) n ms
mark-nowhere i n ms (inl lt) = sym (marked-before i n ms lt)
mark-nowhere i n ms (inr h) = sym (marked-past i n ms (let x = h.0 in let y = h.1 in omega arith))

-- where nothing was marked, each mark says whether its number has the property
mark-of : (p : ℕ → Bool) (n count k : ℕ) (d : Bool) → k < count
    → get_or (marked p n (replicate count false)) k d ≡ p (n + k)
mark-of p n zero k d lt = absurd (omega arith)
mark-of p n (suc count) zero d lt = let q : n + 0 ≡ n = omega arith in rw q refl
mark-of p n (suc count) (suc k) d lt = let q : n + suc k ≡ suc n + k = omega arith in
    rw q (mark-of p (suc n) count k d (omega arith))

marks-length : (p : ℕ → Bool) (n : ℕ) (ms : List Bool) → length (marked p n ms) ≡ length ms
marks-length p n [] = refl
marks-length p n (m ∷ ms) = ap suc (marks-length p (suc n) ms)

pub named-length : (p : ℕ → Bool) (marks : List Bool) (count : ℕ) → marks ≡ marked p 0 (replicate count false)
    → length marks ≡ count
named-length p marks count e =
    ap length e ∙ marks-length p 0 (replicate count false) ∙ length-replicate count false

pub named-at : (p : ℕ → Bool) (marks : List Bool) (count k : ℕ) → marks ≡ marked p 0 (replicate count false)
    → k < count → slice_index_or marks k false ≡ p k
named-at p marks count k e lt =
    let z : 0 + k ≡ k = omega arith in
    ap (λ ms. slice_index_or ms k false) e ∙ mark-of p 0 count k false lt ∙ ap p z
