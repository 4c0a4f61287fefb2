-- A property of all elements, under a view.
use Rattle.std.proofs.Common.{◌≡◌, List, [], ◌∷◌, map, sym, subst}
use Rattle.std.specs.List.{AllByRecursion}

pub mapped : {X Y : Type 0} (P : Y → Type 0) (f : X → Y) (xs : List X) → AllByRecursion (λ x. P (f x)) xs
    → AllByRecursion P (map f xs)
mapped P f [] h = tt
mapped P f (x ∷ xs) h = (h.0, mapped P f xs h.1)

pub unmapped : {X Y : Type 0} (P : Y → Type 0) (f : X → Y) (xs : List X) → AllByRecursion P (map f xs)
    → AllByRecursion (λ x. P (f x)) xs
unmapped P f [] h = tt
unmapped P f (x ∷ xs) h = (h.0, unmapped P f xs h.1)

pub all_so : {X : Type 0} (P Q : X → Type 0) (xs : List X) → ((x : X) → P x → Q x) → AllByRecursion P xs
    → AllByRecursion Q xs
all_so P Q [] f h = tt
all_so P Q (x ∷ xs) f h = (f x h.0, all_so P Q xs f h.1)

-- of a list that is told by an equation
pub kept : {X Y : Type 0} (P : Y → Type 0) (f : X → Y) (xs ys : List X) → ys ≡ xs → AllByRecursion (λ x. P (f x)) ys
    → AllByRecursion P (map f xs)
kept P f xs ys e h = mapped P f xs (subst (AllByRecursion (λ x. P (f x))) e h)

pub refused : {X Y : Type 0} (P : Y → Type 0) (f : X → Y) (xs ys : List X) → ys ≡ xs
    → (AllByRecursion (λ x. P (f x)) ys → ⊥) → AllByRecursion P (map f xs) → ⊥
refused P f xs ys e h k = h (subst (AllByRecursion (λ x. P (f x))) (sym e) (unmapped P f xs k))
