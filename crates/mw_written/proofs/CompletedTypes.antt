-- Types that readings complete are those that are read and those that stand in them, each once, after its parts.
use Rattle.std.proofs.Common.{◌≡◌, ◌⊎◌, inl, inr, ℕ, zero, suc, ◌<◌, Bool, true, false, List, [], ◌∷◌, ◌++◌, length}
use Rattle.std.proofs.Common.{Some, refl, sym}
use Rattle.std.proofs.Common.{ap, ◌∙◌, subst, arith, if◌then◌else◌, true≢false}
use Rattle.std.specs.Prelude.{slice_get, ◌||◌}
use Rattle.std.proofs.lemmas.Option.{slice_get_within, same_Some}
use Rattle.mw_types.specs.Types.{TypeExpression, int_ty, bool_ty, unknown, pair_ty, function_ty, code_ty, closed_ty}
use Rattle.mw_lines.specs.Deciding.{same_type}
use Rattle.mw_lines.proofs.Candidates.{type_same, same_type-refl}
use Rattle.mw_lines.proofs.NamedTypes.{slice_get-more, slice_get-seam, IsInPushed, is_earlier, is_last, in_pushed}
use Rattle.mw_written.specs.Readings.{Reading, a_type, a_classifier}
use Rattle.mw_written.specs.Order.{is_type_among, with_new, with_type, with_readings}
use Rattle.mw_written.specs.OrderLaws.{IsPartOf, IsWithin, IsReadIn, IsOneOf, AreOrdered, CompletedAreOrdered}

or_true : (x y : Bool) → y ≡ true → (x || y) ≡ true
or_true true y h = refl
or_true false y h = h

-- whether a type is among types
pub type_among : (t : TypeExpression) (ts : List TypeExpression) (i : ℕ) → slice_get ts i ≡ Some t
    → is_type_among t ts ≡ true
type_among t [] i h = absurd (cc)
type_among t (u ∷ ts) zero h =
    let e = same_Some u t h in
    let r : same_type u t ≡ true = rw e (same_type-refl t) in
    rw r refl
type_among t (u ∷ ts) (suc i) h = or_true (same_type u t) (is_type_among t ts) (type_among t ts i h)

pub among_type : (t : TypeExpression) (ts : List TypeExpression) → is_type_among t ts ≡ true → IsOneOf t ts
among_type t [] h = absurd (cc)
among_type t (u ∷ ts) h = of (same_type u t) refl (among_type t ts) h
  where
    of : (b : Bool) → same_type u t ≡ b → (is_type_among t ts ≡ true → IsOneOf t ts)
        → (b || is_type_among t ts) ≡ true → IsOneOf t (u ∷ ts)
    of true e f h = (0, ap (λ v. Some v) (type_same u t e))
    of false e f h = let r = f h in (suc r.0, r.1)

-- us are ts, and after them further types, which are these
record IsGrown (ts us : List TypeExpression) (P : TypeExpression → Type 0) : Type 0 where
  pub extends : (u : TypeExpression) → IsOneOf u ts → IsOneOf u us
  pub only : (u : TypeExpression) → IsOneOf u us → IsOneOf u ts ⊎ P u
  pub whole : (u : TypeExpression) → P u → IsOneOf u us
  pub ordered : AreOrdered us

-- first some, then others
both_grown : {ts us vs : List TypeExpression} {P Q : TypeExpression → Type 0} → IsGrown ts us P → IsGrown us vs Q
    → IsGrown ts vs (λ u. P u ⊎ Q u)
both_grown b c = record {
  extends = λ u h. c.extends u (b.extends u h);
  only = λ u h. elim (c.only u h) [
    | inl g ↦ elim (b.only u g) [ inl f ↦ inl f | inr f ↦ inr (inl f) ]
    | inr f ↦ inr (inr f)
  ];
  whole = λ u h. elim h [ inl f ↦ c.extends u (b.whole u f) | inr f ↦ c.whole u f ];
  ordered = c.ordered;
}

equal_one : (us : List TypeExpression) (t u : TypeExpression) → IsOneOf t us → u ≡ t → IsOneOf u us
equal_one us t u h e = (h.0, h.1 ∙ ap (λ v. Some v) (sym e))

-- a type whose parts are among types that are ordered, after them if it isn't one of them
module _ (ts : List TypeExpression) (t : TypeExpression) (known : AreOrdered ts)
    (parts : (u : TypeExpression) → IsPartOf u t → IsOneOf u ts) where
  module _ (new : is_type_among t ts ≡ false) where
    is_new : (i : ℕ) → slice_get ts i ≡ Some t → ⊥
    is_new i h = absurd (true≢false (sym (type_among t ts i h) ∙ new))

    pushed_once : (i j : ℕ) (u : TypeExpression) → IsInPushed ts t i u → IsInPushed ts t j u → i ≡ j
    pushed_once i j u (is_earlier h) (is_earlier g) = known.once i j u h g
    pushed_once i j u (is_earlier h) (is_last q e) = absurd (is_new i (rw e h))
    pushed_once i j u (is_last p d) (is_earlier g) = absurd (is_new j (rw d g))
    pushed_once i j u (is_last p d) (is_last q e) = p ∙ sym q

    pushed_parts : (i : ℕ) (s u : TypeExpression) → IsInPushed ts t i s → IsPartOf u s
        → (j : ℕ) × (j < i) × (slice_get (ts ++ t ∷ []) j ≡ Some u)
    pushed_parts i s u (is_earlier h) q =
        let r = known.parts i s u h q in
        (r.0, r.1, slice_get-more ts (t ∷ []) r.0 u r.2)
    pushed_parts i s u (is_last p d) q =
        let r = parts u (subst (λ z. IsPartOf u z) (sym d) q) in
        let within = slice_get_within ts r.0 u r.1 in
        (r.0, omega arith, slice_get-more ts (t ∷ []) r.0 u r.1)

    pushed_only : (u : TypeExpression) (i : ℕ) → IsInPushed ts t i u → IsOneOf u ts ⊎ (u ≡ t)
    pushed_only u i (is_earlier h) = inl (i, h)
    pushed_only u i (is_last p d) = inr (sym d)

    new_added : IsGrown ts (ts ++ t ∷ []) (λ u. u ≡ t)
    new_added = record {
      extends = λ u g. (g.0, slice_get-more ts (t ∷ []) g.0 u g.1);
      only = λ u g. pushed_only u g.0 (in_pushed ts t g.0 u g.1);
      whole = λ u e. equal_one (ts ++ t ∷ []) t u (length ts, slice_get-seam ts t []) e;
      ordered = record {
        once = λ i j u h g. pushed_once i j u (in_pushed ts t i u h) (in_pushed ts t j u g);
        parts = λ i s u h q. pushed_parts i s u (in_pushed ts t i s h) q;
      };
    }

  added : IsGrown ts (with_new ts t) (λ u. u ≡ t)
  added = of (is_type_among t ts) refl
    where
      of : (b : Bool) → is_type_among t ts ≡ b → IsGrown ts (if b then ts else ts ++ t ∷ []) (λ u. u ≡ t)
      of true h = record {
        extends = λ u g. g;
        only = λ u g. inl g;
        whole = λ u e. equal_one ts t u (among_type t ts h) e;
        ordered = known;
      }
      of false h = new_added h

is_within_itself : (t : TypeExpression) → IsWithin t t
is_within_itself int_ty = refl
is_within_itself bool_ty = refl
is_within_itself (unknown u) = refl
is_within_itself (pair_ty s t) = inl refl
is_within_itself (function_ty s t) = inl refl
is_within_itself (code_ty c t) = inl refl
is_within_itself (closed_ty t) = inl refl

-- a type whose parts are among the further types, after them
whole_grown : {ts us : List TypeExpression} {P : TypeExpression → Type 0} (w : TypeExpression) → IsGrown ts us P
    → ((u : TypeExpression) → IsPartOf u w → P u) → IsGrown ts (with_new us w) (λ u. (u ≡ w) ⊎ P u)
whole_grown {us = us} w b part =
    let a = both_grown b (added us w b.ordered (λ u q. b.whole u (part u q))) in
    record {
      extends = a.extends;
      only = λ u h. elim (a.only u h) [ inl f ↦ inl f | inr f ↦ inr (swapped f) ];
      whole = λ u h. a.whole u (swapped h);
      ordered = a.ordered;
    }
  where
    swapped : {A B : Type 0} → A ⊎ B → B ⊎ A
    swapped (inl a) = inr a
    swapped (inr b) = inl b

either_part : (s t u : TypeExpression) → (u ≡ s) ⊎ (u ≡ t) → IsWithin u s ⊎ IsWithin u t
either_part s t u (inl e) = inl (rw e (is_within_itself s))
either_part s t u (inr e) = inr (rw e (is_within_itself t))

-- what comes once a type is read is what stands in it
completed : (ts : List TypeExpression) (t : TypeExpression) → AreOrdered ts
    → IsGrown ts (with_type ts t) (λ u. IsWithin u t)
completed ts int_ty known = added ts int_ty known (λ u q. absurd q)
completed ts bool_ty known = added ts bool_ty known (λ u q. absurd q)
completed ts (unknown v) known = added ts (unknown v) known (λ u q. absurd q)
completed ts (pair_ty s t) known =
    let b = completed ts s known in
    whole_grown (pair_ty s t) (both_grown b (completed (with_type ts s) t b.ordered)) (λ u q. either_part s t u q)
completed ts (function_ty s t) known =
    let b = completed ts s known in
    whole_grown (function_ty s t) (both_grown b (completed (with_type ts s) t b.ordered)) (λ u q. either_part s t u q)
completed ts (code_ty c t) known =
    whole_grown (code_ty c t) (completed ts t known) (λ u q. rw q (is_within_itself t))
completed ts (closed_ty t) known =
    whole_grown (closed_ty t) (completed ts t known) (λ u q. rw q (is_within_itself t))

-- the same once readings are read
all_completed : (ts : List TypeExpression) (rs : List Reading) → AreOrdered ts
    → IsGrown ts (with_readings ts rs) (λ u. IsReadIn u rs)
all_completed ts [] known = record { extends = λ u h. h; only = λ u h. inl h; whole = λ u h. absurd h; ordered = known }
all_completed ts (a_classifier c ∷ rs) known = all_completed ts rs known
all_completed ts (a_type t ∷ rs) known =
    let c = completed ts t known in both_grown c (all_completed (with_type ts t) rs c.ordered)

none_ordered : AreOrdered []
none_ordered = record { once = λ i j t h g. absurd (cc); parts = λ i t u h q. absurd (cc) }

not_one : (u : TypeExpression) → IsOneOf u [] → ⊥
not_one u h = absurd (let e = h.1 in cc)

pub completed_ordered : CompletedAreOrdered
completed_ordered rs ts h =
    let r = all_completed [] rs none_ordered in
    let back = subst (λ us. IsGrown [] us (λ u. IsReadIn u rs)) (sym h) r in (
      back.ordered,
      λ u. (λ g. elim (back.only u g) [ inl f ↦ absurd (not_one u f) | inr f ↦ f ], back.whole u),
    )
