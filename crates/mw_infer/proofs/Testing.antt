-- The tests of closes one after another.
use Rattle.std.proofs.Common.{◌≡◌, ℕ, zero, suc, ◌+◌, ◌<◌, List, [], ◌∷◌, ◌++◌, map, take, drop, length, get_or, false}
use Rattle.std.proofs.Common.{IsTrue, Some, refl, ap, sym, subst, arith}
use Rattle.std.specs.Prelude.{slice_get, slice_index_or}
use Rattle.mw_term.specs.Types.{IsAbsent, IsAbsentAt}
use Rattle.mw_types.specs.Types.{Assignment, Substitution, after}
use Rattle.mw_infer.specs.declared.output.Spot.{Spot}
use Rattle.mw_infer.specs.declared.scope.Binder.{Binder}
use Rattle.mw_infer.specs.Inferring.{entry_of, AreFresh, least}
use Rattle.mw_infer.specs.Checking.{IsFirstOpen}
use Rattle.mw_infer.specs.Emitting.{close_of}
use Rattle.mw_infer.specs.Below.{SlotBelow, SlotsBelow, ClosesBelow}
use Rattle.mw_infer.specs.Judging.{IsFirstOpenAt}
use Rattle.mw_infer.specs.Views.{slot_of}

pub binder-below : (n m : ℕ) (xs : List Binder) (i : ℕ) (d : Binder) → SlotsBelow n m (map slot_of xs) → i < length xs
    → SlotBelow n m (slot_of (slice_index_or xs i d))
binder-below n m [] i d h lt = absurd (omega arith)
binder-below n m (x ∷ xs) zero d h lt = h.0
binder-below n m (x ∷ xs) (suc i) d h lt = binder-below n m xs i d h.1 (omega arith)

pub absent-at : (k : ℕ) (a : Assignment) (xs : List Binder) (i : ℕ) (d : Binder) → i < length xs
    → IsAbsent k (map (entry_of a) (map slot_of xs)) → IsAbsentAt k (entry_of a (slot_of (slice_index_or xs i d)))
absent-at k a [] i d lt h = absurd (omega arith)
absent-at k a (x ∷ xs) zero d lt h = h.0
absent-at k a (x ∷ xs) (suc i) d lt h = absent-at k a xs i d (omega arith) h.1

absent-next : (k : ℕ) (a : Assignment) (xs : List Binder) (i : ℕ) (d : Binder) → i < length xs
    → IsAbsent k (map (entry_of a) (map slot_of (take i xs)))
    → IsAbsentAt k (entry_of a (slot_of (slice_index_or xs i d)))
    → IsAbsent k (map (entry_of a) (map slot_of (take (suc i) xs)))
absent-next k a [] i d lt h q = absurd (omega arith)
absent-next k a (x ∷ xs) zero d lt h q = (q, tt)
absent-next k a (x ∷ xs) (suc i) d lt h q = (h.0, absent-next k a xs i d (omega arith) h.1 q)

pub absent-more : (k : ℕ) (a : Assignment) (xs : List Binder) (i : ℕ) (d : Binder) → i < length xs
    → IsAbsent k (map (entry_of a) (map slot_of (take i xs)))
    → IsAbsentAt k (entry_of a (slot_of (slice_index_or xs i d)))
    → IsAbsent k (map (entry_of a) (map slot_of (take (i + 1) xs)))
absent-more k a xs i d lt h q = let e : i + 1 ≡ suc i = omega arith in rw e (absent-next k a xs i d lt h q)

pub spot-below : (n m : ℕ) (xs : List Spot) (i : ℕ) (x : Spot) → ClosesBelow n m (map close_of xs) → i < length xs
    → x ≡ get_or xs i x → (x.classifier < m) × SlotsBelow n m (map slot_of x.scope.items)
spot-below n m [] i x h lt e = absurd (omega arith)
spot-below n m (y ∷ xs) zero x h lt e = subst (λ z. (z.classifier < m) × SlotsBelow n m (map slot_of z.scope.items))
    (sym e) h.0
spot-below n m (y ∷ xs) (suc i) x h lt e = spot-below n m xs i x h.1 (omega arith) e

fresh-next : (a : Assignment) (xs : List Spot) (i : ℕ) (x : Spot) → i < length xs → x ≡ get_or xs i x
    → AreFresh a (map close_of (take i xs)) → IsAbsent (a.classifier x.classifier)
    (map (entry_of a) (map slot_of x.scope.items)) → AreFresh a (map close_of (take (suc i) xs))
fresh-next a [] i x lt e h q = absurd (omega arith)
fresh-next a (y ∷ xs) zero x lt e h q =
    (subst (λ z. IsAbsent (a.classifier z.classifier) (map (entry_of a) (map slot_of z.scope.items))) e q, tt)
fresh-next a (y ∷ xs) (suc i) x lt e h q = (h.0, fresh-next a xs i x (omega arith) e h.1 q)

pub fresh-more : (a : Assignment) (xs : List Spot) (i : ℕ) (x : Spot) → i < length xs → x ≡ get_or xs i x
    → AreFresh a (map close_of (take i xs)) → IsAbsent (a.classifier x.classifier)
    (map (entry_of a) (map slot_of x.scope.items)) → AreFresh a (map close_of (take (i + 1) xs))
fresh-more a xs i x lt e h q = let s : i + 1 ≡ suc i = omega arith in rw s (fresh-next a xs i x lt e h q)

pub parted : (xs : List Spot) (i : ℕ) (x : Spot) → i < length xs → x ≡ get_or xs i x → map close_of xs
    ≡ map close_of (take i xs) ++ (close_of x ∷ map close_of (drop (suc i) xs))
parted [] i x lt e = absurd (omega arith)
parted (y ∷ xs) zero x lt e = ap (λ z. close_of z ∷ map close_of xs) (sym e)
parted (y ∷ xs) (suc i) x lt e = ap (λ z. close_of y ∷ z) (parted xs i x (omega arith) e)

pub first-at : (s : Substitution) (xs : List Spot) (i : ℕ) (x : Spot) → i < length xs → x ≡ get_or xs i x
    → AreFresh (after least s) (map close_of (take i xs))
    → (IsAbsent (s.classifier x.classifier) (map (entry_of (after least s)) (map slot_of x.scope.items)) → ⊥)
    → IsFirstOpen s (map close_of xs) (close_of x)
first-at s xs i x lt e h q = record {
  earlier = map close_of (take i xs);
  later = map close_of (drop (suc i) xs);
  parts = parted xs i x lt e;
  fresh = h;
  stands = q;
}

pub open-at : (s : Substitution) (xs : List Spot) (i : ℕ) (x : Spot) → i < length xs → x ≡ get_or xs i x
    → AreFresh (after least s) (map close_of (take i xs))
    → (IsAbsent (s.classifier x.classifier) (map (entry_of (after least s)) (map slot_of x.scope.items)) → ⊥)
    → IsFirstOpenAt s (map close_of xs) x.at
open-at s xs i x lt e h q = (close_of x, first-at s xs i x lt e h q, refl)

pub read : {A : Type 0} (xs : List A) (i : ℕ) (d r : A) → slice_get xs i ≡ Some r → slice_index_or xs i d ≡ r
read [] i d r e = absurd (cc)
read (x ∷ xs) zero d r e = cc
read (x ∷ xs) (suc i) d r e = read xs i d r e

pub not_true : {X : Type 0} → IsTrue false → X
not_true e = absurd (cc)
