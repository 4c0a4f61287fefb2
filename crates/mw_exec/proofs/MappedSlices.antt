-- A loop over a slice that pushes what a function gives of each item.
use Rattle.std.proofs.Common.{◌≡◌, ◌≤◌, ◌<◌, ℕ, zero, suc, ◌+◌, List, [], ◌∷◌, ◌++◌, length, map, take, sym, ap, ◌∙◌}
use Rattle.std.proofs.Common.{subst, append_assoc, get_or, arith}
use Rattle.std.specs.List.{AllByRecursion}
use Rattle.std.proofs.lemmas.List.{map-append, take_more, take_all}

pub mapped_more : {A B : Type 0} (f : A → B) (xs : List A) (i : ℕ) (d : A) (y : B) (start now new : List B)
    → now ≡ start ++ map f (take i xs) → i < length xs → y ≡ f (get_or xs i d) → new ≡ now ++ y ∷ []
    → new ≡ start ++ map f (take (i + 1) xs)
mapped_more f xs i d y start now new e lt g h =
    h ∙ (ap (λ ys. ys ++ y ∷ []) e
    ∙ (ap (λ z. (start ++ map f (take i xs)) ++ z ∷ []) g
    ∙ (append_assoc start (map f (take i xs)) (f (get_or xs i d) ∷ [])
    ∙ ap (λ ys. start ++ ys) (sym (map-append f (take i xs) (get_or xs i d ∷ []))
    ∙ ap (λ ys. map f ys) (sym (take_more xs i d lt))))))

pub mapped_all : {A B : Type 0} (f : A → B) (xs : List A) (i : ℕ) (start now : List B)
    → now ≡ start ++ map f (take i xs) → length xs ≤ i → now ≡ start ++ map f xs
mapped_all f xs i start now e le = e ∙ ap (λ ys. start ++ map f ys) (take_all i xs le)

-- what holds of all items holds of the one at a place
pub all_item : {X : Type 0} (P : X → Type 0) (xs : List X) (i : ℕ) (x : X) → AllByRecursion P xs → i < length xs
    → x ≡ get_or xs i x → P x
all_item P [] i x all lt e = absurd (omega arith)
all_item P (y ∷ xs) zero x all lt e = subst P (sym e) all.0
all_item P (y ∷ xs) (suc i) x all lt e = all_item P xs i x all.1 (omega arith) e
