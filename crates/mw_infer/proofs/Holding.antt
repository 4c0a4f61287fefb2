-- The binders that hold a classifier.
use Rattle.std.proofs.Common.{◌≡◌, ℕ, zero, suc, ◌+◌, ◌<◌, ◌≤◌, inl, inr, List, [], ◌∷◌, map, Some, refl, sym, subst}
use Rattle.std.proofs.Common.{◌∙◌, length, get_or, true, false, arith}
use Rattle.std.proofs.Math.Nat.{eq-or-lt_of_le}
use Rattle.std.proofs.lemmas.List.{length-map, length-take-le}
use Rattle.std.proofs.lemmas.Option.{slice_get_within}
use Rattle.std.specs.Prelude.{slice_get, slice_index_or, take, drop}
use Rattle.mw_term.specs.Types.{IsAbsent, IsAbsentAt}
use Rattle.mw_types.specs.Types.{Assignment, Substitution, after}
use Rattle.mw_infer.specs.declared.output.Spot.{Spot}
use Rattle.mw_infer.specs.declared.scope.Binder.{Binder}
use Rattle.mw_infer.specs.Emitting.{close_of}
use Rattle.mw_term.specs.Terms.{Expression}
use Rattle.mw_infer.specs.CloseContents.{occurs_in}
use Rattle.mw_infer.specs.Faults.{BindsClassifier, IsToldBinder, IsOpenHeld}
use Rattle.mw_infer.specs.Inferring.{entry_of, AreFresh, least}
use Rattle.mw_infer.specs.ItemEquations.{Slot}
use Rattle.mw_infer.specs.Views.{slot_of}
use Rattle.mw_infer.specs.Occurring.{IsNearest}
use Rattle.mw_infer.proofs.Testing.{parted}

slot-at : (xs : List Binder) (i : ℕ) (d : Binder) → i < length xs
    → slice_get (map slot_of xs) i ≡ Some (slot_of (slice_index_or xs i d))
slot-at [] i d lt = absurd (omega arith)
slot-at (x ∷ xs) zero d lt = refl
slot-at (x ∷ xs) (suc i) d lt = slot-at xs i d (omega arith)

-- a binder where the classifier stands holds it
pub held-at : (s : Substitution) (k : ℕ) (xs : List Binder) (i : ℕ) (d : Binder) → i < length xs
    → (IsAbsentAt k (entry_of (after least s) (slot_of (slice_index_or xs i d))) → ⊥)
    → BindsClassifier s k (map slot_of xs) i
held-at s k xs i d lt h = record { slot = slot_of (slice_index_or xs i d); bound = slot-at xs i d lt; stands = h }

absent-slot : (k : ℕ) (a : Assignment) (g : List Slot) (i : ℕ) (x : Slot) → slice_get g i ≡ Some x
    → IsAbsent k (map (entry_of a) g) → IsAbsentAt k (entry_of a x)
absent-slot k a [] i x e h = absurd (cc)
absent-slot k a (y ∷ g) zero x e h = let p : y ≡ x = cc in subst (λ z. IsAbsentAt k (entry_of a z)) p h.0
absent-slot k a (y ∷ g) (suc i) x e h = absent-slot k a g i x e h.1

-- of the first so many binders none holds a classifier that stands in none of them
absent-before : (s : Substitution) (k : ℕ) (xs : List Binder) (i other : ℕ) → other < i
    → IsAbsent k (map (entry_of (after least s)) (map slot_of (take i xs)))
    → BindsClassifier s k (map slot_of xs) other → ⊥
absent-before s k [] i other lt a h = let e = h.bound in absurd (cc)
absent-before s k (x ∷ xs) zero other lt a h = absurd (omega arith)
absent-before s k (x ∷ xs) (suc i) zero lt a h =
    h.stands (let e : slot_of x ≡ h.slot = (let b = h.bound in cc) in
    subst (λ z. IsAbsentAt k (entry_of (after least s) z)) e a.0)
absent-before s k (x ∷ xs) (suc i) (suc other) lt a h = absent-before s k xs i other (omega arith) a.1
    (record { slot = h.slot; bound = h.bound; stands = h.stands })

pub nearest-at : (s : Substitution) (k : ℕ) (xs : List Binder) (i : ℕ) (d : Binder) → i < length xs
    → IsAbsent k (map (entry_of (after least s)) (map slot_of (take i xs)))
    → (IsAbsentAt k (entry_of (after least s) (slot_of (slice_index_or xs i d))) → ⊥)
    → IsNearest s k (map slot_of xs) i
nearest-at s k xs i d lt a h = record {
  holds = held-at s k xs i d lt h;
  nearer = λ other before b. absent-before s k xs i other before a b;
}

-- a binder that holds the classifier is one of the binders
pub held-within : (s : Substitution) (k : ℕ) (xs : List Binder) (other : ℕ) → BindsClassifier s k (map slot_of xs) other
    → other < length xs
held-within s k xs other h =
    omega (arith, slice_get_within (map slot_of xs) other h.slot h.bound, length-map xs slot_of)

-- what stands at a binder's place is its slot
pub held-slot : (s : Substitution) (k : ℕ) (xs : List Binder) (i : ℕ) (d : Binder) → i < length xs
    → BindsClassifier s k (map slot_of xs) i
    → IsAbsentAt k (entry_of (after least s) (slot_of (slice_index_or xs i d))) → ⊥
held-slot s k xs i d lt h a =
    let e : h.slot ≡ slot_of (slice_index_or xs i d) = (let b = h.bound in let c = slot-at xs i d lt in cc) in
    h.stands (subst (λ z. IsAbsentAt k (entry_of (after least s) z)) (sym e) a)

module _ (s : Substitution) (k : ℕ) (xs : List Binder) (code : Expression) where
  -- none of the first so many binders holds the classifier and is named in the code
  abbrev pub NoneNamed : ℕ → Type 0
  NoneNamed i = (other : ℕ) → other < i → BindsClassifier s k (map slot_of xs) other → occurs_in other code ≡ false

  -- the first that is both is told
  pub told-named : (i : ℕ) → NoneNamed i → BindsClassifier s k (map slot_of xs) i → occurs_in i code ≡ true
      → IsToldBinder s k (map slot_of xs) code i
  told-named i none h named = record {
    holds = h;
    occurs = λ other b o. named;
    nearer = λ other lt b e. let q = none other lt b in absurd (cc);
  }

  -- where there is none, the nearest
  pub told-nearest : (i : ℕ) → NoneNamed (length xs) → IsNearest s k (map slot_of xs) i
      → IsToldBinder s k (map slot_of xs) code i
  told-nearest i none h = record {
    holds = h.holds;
    occurs = λ other b o. let e = none other (held-within s k xs other b) b in absurd (cc);
    nearer = λ other lt b e. h.nearer other lt b;
  }

  -- one binder more
  pub none-more : (i : ℕ) → NoneNamed i → (BindsClassifier s k (map slot_of xs) i → occurs_in i code ≡ false)
      → NoneNamed (i + 1)
  none-more i none h other lt b = elim (eq-or-lt_of_le (let x : other ≤ i = omega arith in x)) [
    | inl e ↦ subst (λ j. occurs_in j code ≡ false) (sym e)
        (h (subst (λ j. BindsClassifier s k (map slot_of xs) j) e b))
    | inr l ↦ none other l b
  ]

-- the first close that is not fresh, with its code and the binder that is told of it
pub open-held : (s : Substitution) (xs : List Spot) (codes : List Expression) (i : ℕ) (x : Spot) (code : Expression)
    (binder : ℕ) → i < length xs → x ≡ get_or xs i x → AreFresh (after least s) (map close_of (take i xs))
    → slice_get codes i ≡ Some code
    → IsToldBinder s (s.classifier x.classifier) (map slot_of x.scope.items) code binder
    → IsOpenHeld s (map close_of xs) codes x.at binder
open-held s xs codes i x code binder lt e f c h = record {
  close = close_of x;
  first = record {
    earlier = map close_of (take i xs);
    later = map close_of (drop (suc i) xs);
    parts = parted xs i x lt e;
    fresh = f;
    stands = λ a. h.holds.stands (absent-slot (s.classifier x.classifier) (after least s) (map slot_of x.scope.items)
        binder h.holds.slot h.holds.bound a);
  };
  place = refl;
  code = code;
  closed = let n : length (map close_of (take i xs)) ≡ i =
      length-map (take i xs) close_of ∙ length-take-le i xs (omega arith) in
      subst (λ j. slice_get codes j ≡ Some code) (sym n) c;
  told = h;
}
