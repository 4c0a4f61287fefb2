-- A property of all elements, tried from left to right.
use Rattle.std.proofs.Common.{◌<◌, ◌≤◌, ℕ, ◌+◌, List, length, drop, get_or, sym, subst}
use Rattle.std.specs.List.{AllByRecursion}
use Rattle.std.proofs.lemmas.List.{drop_more, drop_all}

-- those from place i on are enough
pub record Enough {X : Type 0} (P : X → Type 0) (xs : List X) (i : ℕ) : Type 0 where
  pub enough : AllByRecursion P (drop i xs) → AllByRecursion P xs
  pub needed : AllByRecursion P xs → AllByRecursion P (drop i xs)

pub all_left : {X : Type 0} (P : X → Type 0) (xs : List X) → Enough P xs 0
all_left P xs = record { enough = λ h. h; needed = λ h. h }

pub one_more : {X : Type 0} (P : X → Type 0) (xs : List X) (i : ℕ) (d : X) → i < length xs → P (get_or xs i d)
    → Enough P xs i → Enough P xs (i + 1)
one_more P xs i d lt p h = record {
  enough = λ a. h.enough (subst (AllByRecursion P) (sym (drop_more xs i d lt)) (p, a));
  needed = λ a. (subst (AllByRecursion P) (drop_more xs i d lt) (h.needed a)).1;
}

pub one_fails : {X : Type 0} (P : X → Type 0) (xs : List X) (i : ℕ) (d : X) → i < length xs → (P (get_or xs i d) → ⊥)
    → Enough P xs i → AllByRecursion P xs → ⊥
one_fails P xs i d lt p h a = p (subst (AllByRecursion P) (drop_more xs i d lt) (h.needed a)).0

pub none_left : {X : Type 0} (P : X → Type 0) (xs : List X) (i : ℕ) → length xs ≤ i → Enough P xs i
    → AllByRecursion P xs
none_left P xs i le h = h.enough (subst (AllByRecursion P) (sym (drop_all i xs le)) tt)

-- elements that are looked at one after the other
pub ruleset element_laws = (all_left, one_more, one_fails, none_left)
