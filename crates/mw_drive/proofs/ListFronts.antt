-- Fronts and rests of lists, one element on.
use Rattle.std.proofs.Common.{◌≡◌, ◌+◌, ◌<◌, length, ℕ, zero, suc, List, [], ◌∷◌, ◌++◌, take, drop, Some, All, ap}
use Rattle.std.proofs.Common.{arith}
use Rattle.std.specs.Prelude.{slice_get, get_or}
use Rattle.std.specs.List.{AllByRecursion}
use Rattle.std.proofs.lemmas.List.Elements.{All-from_recursion}

one_more : (n : ℕ) → n + 1 ≡ suc n
one_more n = omega arith

pub take_next : {A : Type 0} (xs : List A) (i : ℕ) (x : A) → slice_get xs i ≡ Some x → take (i + 1) xs ≡ take i xs
    ++ x ∷ []
take_next xs i x h = rw (one_more i) (go xs i x h)
  where
    go : {A : Type 0} (xs : List A) (i : ℕ) (x : A) → slice_get xs i ≡ Some x → take (suc i) xs ≡ take i xs ++ x ∷ []
    go [] i x h = absurd (cc)
    go (y ∷ xs) zero x h = cc
    go (y ∷ xs) (suc i) x h = ap (λ zs. y ∷ zs) (go xs i x h)

pub drop_next : {A : Type 0} (xs : List A) (i : ℕ) (x : A) → slice_get xs i ≡ Some x → drop i xs ≡ x ∷ drop (i + 1) xs
drop_next xs i x h = rw (one_more i) (go xs i x h)
  where
    go : {A : Type 0} (xs : List A) (i : ℕ) (x : A) → slice_get xs i ≡ Some x → drop i xs ≡ x ∷ drop (suc i) xs
    go [] i x h = absurd (cc)
    go (y ∷ xs) zero x h = cc
    go (y ∷ xs) (suc i) x h = go xs i x h

pub all_at : {A : Type 0} (P : A → Type 0) (xs : List A) (i : ℕ) (x : A) → AllByRecursion P xs
    → slice_get xs i ≡ Some x → P x
all_at P [] i x h e = absurd (cc)
all_at P (y ∷ xs) zero x h e = let s : Some y ≡ Some x = e in at_first P y x h.0 s
  where
    at_first : {A : Type 0} (P : A → Type 0) (y x : A) → P y → Some y ≡ Some x → P x
    at_first P y x h e = let s : y ≡ x = cc in rw (← s) h
all_at P (y ∷ xs) (suc i) x h e = all_at P xs i x h.1 e

pub all_with : {A : Type 0} (P : A → Type 0) (xs : List A) (x : A) → AllByRecursion P xs → P x → AllByRecursion P
    (xs ++ x ∷ [])
all_with P [] x h p = (p, tt)
all_with P (y ∷ xs) x h p = (h.0, all_with P xs x h.1 p)

-- an element that was got at a place
pub got : {A : Type 0} (xs : List A) (i : ℕ) (x : A) → i < length xs → x ≡ get_or xs i x → slice_get xs i ≡ Some x
got [] i x lt e = absurd (omega arith)
got (y ∷ xs) zero x lt e = cc
got (y ∷ xs) (suc i) x lt e = got xs i x (omega arith) e

-- what holds of one element holds of a list of it alone
pub one_all : {A : Type 0} (P : A → Type 0) (x : A) → P x → All P (x ∷ [])
one_all P x h = All-from_recursion P (x ∷ []) (h, tt)
