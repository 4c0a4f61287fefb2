-- Where lists stand in lists.
use Rattle.std.proofs.Common.{◌≡◌, ℕ, suc, ◌+◌, List, [], ◌∷◌, ◌++◌, length, Some, refl, subst, arith}
use Rattle.std.specs.Prelude.{slice_get}
use Rattle.std.specs.List.{AllByRecursion}

-- the list xs has ys from number k on
abbrev pub AtFrom : {A : Type 0} → List A → ℕ → List A → Type 0
AtFrom xs k [] = Unit {0}
AtFrom xs k (y ∷ ys) = (slice_get xs k ≡ Some y) × AtFrom xs (suc k) ys

at_more : {A : Type 0} (x : A) (xs : List A) (k : ℕ) (ys : List A) → AtFrom xs k ys → AtFrom (x ∷ xs) (suc k) ys
at_more x xs k [] h = tt
at_more x xs k (y ∷ ys) h = (h.0, at_more x xs (suc k) ys h.1)

pub at_start : {A : Type 0} (ys : List A) → AtFrom ys 0 ys
at_start [] = tt
at_start (y ∷ ys) = (refl, at_more y ys 0 ys (at_start ys))

pub at_after : {A : Type 0} (front ys : List A) → AtFrom (front ++ ys) (length front) ys
at_after [] ys = at_start ys
at_after (x ∷ front) ys = at_more x (front ++ ys) (length front) ys (at_after front ys)

pub at_front : {A : Type 0} (xs : List A) (k : ℕ) (us vs : List A) → AtFrom xs k (us ++ vs) → AtFrom xs k us
at_front xs k [] vs h = tt
at_front xs k (u ∷ us) vs h = (h.0, at_front xs (suc k) us vs h.1)

pub at_back : {A : Type 0} (xs : List A) (k : ℕ) (us vs : List A) → AtFrom xs k (us ++ vs)
    → AtFrom xs (k + length us) vs
at_back xs k [] vs h = let e : k ≡ k + 0 = omega arith in subst (λ k. AtFrom xs k vs) e h
at_back xs k (u ∷ us) vs h =
    let e : suc k + length us ≡ k + suc (length us) = omega arith in
    subst (λ k. AtFrom xs k vs) e (at_back xs (suc k) us vs h.1)

-- what holds of each of two lists
pub first_all : {A : Type 0} (P : A → Type 0) (xs ys : List A) → AllByRecursion P (xs ++ ys) → AllByRecursion P xs
first_all P [] ys a = tt
first_all P (x ∷ xs) ys a = (a.0, first_all P xs ys a.1)

pub second_all : {A : Type 0} (P : A → Type 0) (xs ys : List A) → AllByRecursion P (xs ++ ys) → AllByRecursion P ys
second_all P [] ys a = a
second_all P (x ∷ xs) ys a = second_all P xs ys a.1
