-- The first items of a list, and texts after a prefix.
use Rattle.std.proofs.Common.{◌≡◌, ℕ, ◌≤◌, ◌<◌, List, [], ◌∷◌, Option, Some, None, length, get_or, map, true}
use Rattle.std.proofs.Common.{false, refl, arith}
use Rattle.std.specs.Option.{is_some, option_map, option_to_list}
use Rattle.std.specs.Prelude.{Result, Ok, Err, IfOk, IfErr}

-- a list of no item
pub no_item : {A : Type 0} (xs : List A) → length xs < 1 → xs ≡ []
no_item [] low = refl
no_item (x ∷ xs) low = absurd (omega arith)

-- a list of some item has some text
pub some_text : {A B : Type 0} (f : A → B) (xs : List A) → 1 ≤ length xs → map f xs ≡ [] → ⊥
some_text f [] low e = absurd (omega arith)
some_text f (x ∷ xs) low e = cc

-- a list of one item
pub one_item : {A B : Type 0} (f : A → B) (xs : List A) (a : A) → 1 ≤ length xs → length xs < 2 → a ≡ get_or xs 0 a
    → map f xs ≡ f a ∷ []
one_item f [] a low high p = absurd (omega arith)
one_item f (x ∷ []) a low high p = cc
one_item f (x ∷ y ∷ xs) a low high p = absurd (omega arith)

pub first_same : {a b : List ℕ} {xs ys : List (List ℕ)} → a ∷ xs ≡ b ∷ ys → a ≡ b
first_same e = cc

-- nothing was found, or something
pub none_listed : {A B : Type 0} (f : A → B) (o : Option A) → is_some o ≡ false → option_to_list (option_map f o) ≡ []
none_listed f None e = refl
none_listed f (Some x) e = cc

pub some_listed : {A B : Type 0} (f : A → B) (o : Option A) → is_some o ≡ true
    → 1 ≤ length (option_to_list (option_map f o))
some_listed f None e = cc
some_listed f (Some x) e = omega arith

pub on_err : {T E : Type 0} (r : Result T E) (P : Type 0) → P → IfErr r (λ _. P)
on_err (Ok x) P h = tt
on_err (Err e) P h = h

pub then_ok : {T E : Type 0} (r : Result T E) (P Q : T → Type 0) → IfOk r P → ((x : T) → P x → Q x) → IfOk r Q
then_ok (Ok x) P Q h f = f x h
then_ok (Err e) P Q h f = tt

pub then_err : {T E : Type 0} (r : Result T E) (P Q : Type 0) → IfErr r (λ _. P) → (P → Q) → IfErr r (λ _. Q)
then_err (Ok x) P Q h f = tt
then_err (Err e) P Q h f = f h
