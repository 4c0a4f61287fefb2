-- An assignment taken apart: each classifier unknown gets a name of its own, and what stood in the unknowns' types is
-- kept apart from these. A renaming puts it together again.
use Rattle.std.proofs.Common.{◌≡◌, ℕ, zero, suc, ◌+◌, ◌*◌, List, [], ◌∷◌, map, refl, ap, arith}
use Rattle.mw_term.specs.Types.{TermType, int_type, bool_type, pair_type, function_type, code_type, closed_type}
use Rattle.mw_term.specs.Types.{IsAbsentIn, IsAbsent}
use Rattle.mw_term.proofs.Classifiers.{rename_type}
use Rattle.mw_types.specs.Types.{TypeExpression, int_ty, bool_ty, unknown, pair_ty, function_ty, code_ty, closed_ty}
use Rattle.mw_types.specs.Types.{Assignment, value, Substitution, after}
use Rattle.mw_infer.specs.ItemEquations.{Slot, plain_slot, quoted_slot, Close}
use Rattle.mw_infer.specs.Inferring.{entry_of, AreFresh, least}

-- a classifier that stands nowhere under an assignment stands nowhere in the type: merging only makes the test fail
IsAbsentIn-least : (b : Assignment) (k : ℕ) (t : TypeExpression) → IsAbsentIn (b.classifier k) (value b t)
    → IsAbsentIn k (value least t)
IsAbsentIn-least b k int_ty h = tt
IsAbsentIn-least b k bool_ty h = tt
IsAbsentIn-least b k (unknown u) h = tt
IsAbsentIn-least b k (pair_ty s t) h = (IsAbsentIn-least b k s h.0, IsAbsentIn-least b k t h.1)
IsAbsentIn-least b k (function_ty s t) h = (IsAbsentIn-least b k s h.0, IsAbsentIn-least b k t h.1)
IsAbsentIn-least b k (code_ty c t) h = ((λ e. h.0 (ap b.classifier e)), IsAbsentIn-least b k t h.1)
IsAbsentIn-least b k (closed_ty t) h = IsAbsentIn-least b k t h

pub IsAbsent-least : (b : Assignment) (s : Substitution) (k : ℕ) (g : List Slot)
    → IsAbsent (b.classifier k) (map (entry_of (after b s)) g) → IsAbsent k (map (entry_of (after least s)) g)
IsAbsent-least b s k [] h = tt
IsAbsent-least b s k (plain_slot u ∷ g) h = (IsAbsentIn-least b k (s.ty u) h.0, IsAbsent-least b s k g h.1)
IsAbsent-least b s k (quoted_slot c u ∷ g) h =
    (((λ e. h.0.0 (ap b.classifier e)), IsAbsentIn-least b k (s.ty u) h.0.1), IsAbsent-least b s k g h.1)

-- so closes that are fresh somewhere are fresh on the substitution itself
pub AreFresh-least : (b : Assignment) (s : Substitution) (xs : List Close) → AreFresh (after b s) xs
    → AreFresh (after least s) xs
AreFresh-least b s [] h = tt
AreFresh-least b s (x ∷ xs) h = (IsAbsent-least b s (s.classifier x.classifier) x.scope h.0, AreFresh-least b s xs h.1)

-- classifier unknowns get the even numbers, and what stood in types the odd ones
abbrev odd : ℕ → ℕ
odd c = suc (2 * c)

abbrev pub split : Assignment → Assignment
split b = record { ty = λ u. rename_type odd (b.ty u); classifier = λ c. 2 * c }

-- from an even number the classifier unknown's name, from an odd one what was there
together : (ℕ → ℕ) → ℕ → ℕ → ℕ
together g k zero = g zero
together g k (suc zero) = k
together g k (suc (suc n)) = together (λ c. g (suc c)) (suc k) n

together-even : (g : ℕ → ℕ) (k c : ℕ) → together g k (2 * c) ≡ g c
unfolding together
together-even g k zero = refl
together-even g k (suc c) = let e : 2 * suc c ≡ suc (suc (2 * c)) = omega arith in
    rw e (together-even (λ x. g (suc x)) (suc k) c)

together-odd : (g : ℕ → ℕ) (k c : ℕ) → together g k (odd c) ≡ k + c
unfolding together
together-odd g k zero = omega arith
together-odd g k (suc c) = let e : odd (suc c) ≡ suc (suc (odd c)) = omega arith in
    rw e (omega (arith, together-odd (λ x. g (suc x)) (suc k) c))

pub record Joins (b : Assignment) (r : ℕ → ℕ) : Type 0 where
  pub even : (c : ℕ) → r (2 * c) ≡ b.classifier c
  pub odds : (c : ℕ) → r (odd c) ≡ c

pub joined : (b : Assignment) → (r : ℕ → ℕ) × Joins b r
joined b = (
  together b.classifier 0,
  record { even = λ c. together-even b.classifier 0 c; odds = λ c. omega (arith, together-odd b.classifier 0 c) },
)

rename_type-odd : (r : ℕ → ℕ) (t : TermType) → ((c : ℕ) → r (odd c) ≡ c) → rename_type r (rename_type odd t) ≡ t
rename_type-odd r int_type h = refl
rename_type-odd r bool_type h = refl
rename_type-odd r (pair_type s t) h = rw (rename_type-odd r s h, rename_type-odd r t h) refl
rename_type-odd r (function_type s t) h = rw (rename_type-odd r s h, rename_type-odd r t h) refl
rename_type-odd r (code_type a t) h = rw (h a, rename_type-odd r t h) refl
rename_type-odd r (closed_type t) h = ap closed_type (rename_type-odd r t h)

pub value-split : (b : Assignment) (r : ℕ → ℕ) (t : TypeExpression) → Joins b r → rename_type r (value (split b) t)
    ≡ value b t
value-split b r int_ty h = refl
value-split b r bool_ty h = refl
value-split b r (unknown u) h = rename_type-odd r (b.ty u) h.odds
value-split b r (pair_ty s t) h = rw (value-split b r s h, value-split b r t h) refl
value-split b r (function_ty s t) h = rw (value-split b r s h, value-split b r t h) refl
value-split b r (code_ty c t) h = rw (h.even c, value-split b r t h) refl
value-split b r (closed_ty t) h = ap closed_type (value-split b r t h)

IsAbsentIn-odd : (k : ℕ) (t : TermType) → IsAbsentIn (2 * k) (rename_type odd t)
IsAbsentIn-odd k int_type = tt
IsAbsentIn-odd k bool_type = tt
IsAbsentIn-odd k (pair_type s t) = (IsAbsentIn-odd k s, IsAbsentIn-odd k t)
IsAbsentIn-odd k (function_type s t) = (IsAbsentIn-odd k s, IsAbsentIn-odd k t)
IsAbsentIn-odd k (code_type a t) = ((λ e. omega arith), IsAbsentIn-odd k t)
IsAbsentIn-odd k (closed_type t) = IsAbsentIn-odd k t

IsAbsentIn-split : (b : Assignment) (k : ℕ) (t : TypeExpression) → IsAbsentIn k (value least t)
    → IsAbsentIn (2 * k) (value (split b) t)
IsAbsentIn-split b k int_ty h = tt
IsAbsentIn-split b k bool_ty h = tt
IsAbsentIn-split b k (unknown u) h = IsAbsentIn-odd k (b.ty u)
IsAbsentIn-split b k (pair_ty s t) h = (IsAbsentIn-split b k s h.0, IsAbsentIn-split b k t h.1)
IsAbsentIn-split b k (function_ty s t) h = (IsAbsentIn-split b k s h.0, IsAbsentIn-split b k t h.1)
IsAbsentIn-split b k (code_ty c t) h = ((λ e. h.0 (omega arith)), IsAbsentIn-split b k t h.1)
IsAbsentIn-split b k (closed_ty t) h = IsAbsentIn-split b k t h

IsAbsent-split : (b : Assignment) (s : Substitution) (k : ℕ) (g : List Slot)
    → IsAbsent k (map (entry_of (after least s)) g) → IsAbsent (2 * k) (map (entry_of (after (split b) s)) g)
IsAbsent-split b s k [] h = tt
IsAbsent-split b s k (plain_slot u ∷ g) h = (IsAbsentIn-split b k (s.ty u) h.0, IsAbsent-split b s k g h.1)
IsAbsent-split b s k (quoted_slot c u ∷ g) h =
    (((λ e. h.0.0 (omega arith)), IsAbsentIn-split b k (s.ty u) h.0.1), IsAbsent-split b s k g h.1)

-- closes that are fresh on the substitution itself are fresh under an assignment taken apart
pub AreFresh-split : (b : Assignment) (s : Substitution) (xs : List Close) → AreFresh (after least s) xs
    → AreFresh (after (split b) s) xs
AreFresh-split b s [] h = tt
AreFresh-split b s (x ∷ xs) h = (IsAbsent-split b s (s.classifier x.classifier) x.scope h.0, AreFresh-split b s xs h.1)
