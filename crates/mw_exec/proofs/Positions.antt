-- The first place at which a test passes, found from the left.
use Rattle.std.proofs.lemmas.List.{drop_more, drop_all}
use Rattle.std.proofs.Common.{◌≡◌, ◌≤◌, ◌<◌, ℕ, ◌+◌, Bool, true, List, ◌∷◌, length, refl, sym}
use Rattle.std.proofs.Common.{◌∙◌, ap, Some, None}
use Rattle.std.specs.Prelude.{drop, get_or, position}
use Rattle.std.specs.List.{position_from}
use Rattle.std.proofs.lemmas.Iterator.Adapters.{position_from-zero}

-- nothing before place i passes
pub record NoneBefore {X : Type 0} (test : X → Bool) (xs : List X) (i : ℕ) : Type 0 where
  pub from : position_from test i (drop i xs) ≡ position_from test 0 xs

pub none_before_first : {X : Type 0} (test : X → Bool) (xs : List X) → NoneBefore test xs 0
none_before_first test xs = record { from = refl }

pub here : {X : Type 0} (xs : List X) (i : ℕ) (x : X) → i < length xs → x ≡ get_or xs i x → drop i xs ≡ x
    ∷ drop (i + 1) xs
here xs i x h e = drop_more xs i x h ∙ ap (λ y. y ∷ drop (i + 1) xs) (sym e)

pub first_is_here : {X : Type 0} (test : X → Bool) (xs : List X) (i : ℕ) (x : X) → i < length xs → x ≡ get_or xs i x
    → test x ≡ true → NoneBefore test xs i → Some i ≡ position test xs
first_is_here test xs i x h e t n =
    (sym (ap (λ ys. position_from test i ys) (here xs i x h e) ∙ rw t refl) ∙ n.from)
    ∙ sym (position_from-zero test xs)

pub none_at_all : {X : Type 0} (test : X → Bool) (xs : List X) (i : ℕ) → length xs ≤ i → NoneBefore test xs i
    → None ≡ position test xs
none_at_all test xs i h n = (sym (ap (λ ys. position_from test i ys) (drop_all i xs h)) ∙ n.from)
    ∙ sym (position_from-zero test xs)
