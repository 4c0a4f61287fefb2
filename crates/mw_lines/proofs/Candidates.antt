-- One substitution decides whether a type is made from a root: what stands in it where the root has a number.
use Rattle.std.proofs.Common.{◌≡◌, ℕ, Option, Some, None, refl, ap, sym, Bool, true, false, cond}
use Rattle.std.proofs.Common.{◌↔◌, nat_eq, subst}
use Rattle.std.proofs.lemmas.Bool.{eqb-true, eqb-false, eq-eqb, ne_eqb}
use Rattle.mw_types.specs.Types.{TypeExpression, int_ty, bool_ty, unknown, pair_ty, function_ty, code_ty, closed_ty}
use Rattle.mw_types.specs.Types.{Substitution, apply}
use Rattle.mw_lines.specs.Made.{IsMadeFrom, IsNotIn}
use Rattle.mw_lines.specs.Deciding.{or_else, or, type_for, classifier_for, candidate, same_type, is_made, is_in}
use Rattle.mw_lines.proofs.NamedTypes.{and-both, and-true, either-false, both-false}

-- an answer is nothing or right
data IsRight {A : Type 0} (x : A) : Option A → Type 0 where
  no_answer : IsRight x None
  answer : {y : A} → y ≡ x → IsRight x (Some y)

either : {A : Type 0} (x : A) (p q : Option A) → IsRight x p → IsRight x q → IsRight x (or_else p q)
either x None q h g = g
either x (Some y) q h g = h

where_right : {A : Type 0} (x y : A) (b : Bool) (q : Option A) → (b ≡ true → y ≡ x) → IsRight x q
    → IsRight x (cond b (Some y) q)
where_right x y true q f h = answer (f refl)
where_right x y false q f h = h

right_type : (s : Substitution) (u : ℕ) (root : TypeExpression) → IsRight (s.ty u) (type_for u root (apply s root))
right_type s u int_ty = no_answer
right_type s u bool_ty = no_answer
right_type s u (unknown v) =
    where_right (s.ty u) (s.ty v) (nat_eq v u) None (λ e. ap s.ty (eqb-true v u e)) no_answer
right_type s u (pair_ty a b) = either (s.ty u) _ _ (right_type s u a) (right_type s u b)
right_type s u (function_ty a b) = either (s.ty u) _ _ (right_type s u a) (right_type s u b)
right_type s u (code_ty c a) = right_type s u a
right_type s u (closed_ty a) = right_type s u a

right_classifier : (s : Substitution) (c : ℕ) (root : TypeExpression)
    → IsRight (s.classifier c) (classifier_for c root (apply s root))
right_classifier s c int_ty = no_answer
right_classifier s c bool_ty = no_answer
right_classifier s c (unknown v) = no_answer
right_classifier s c (pair_ty a b) = either (s.classifier c) _ _ (right_classifier s c a) (right_classifier s c b)
right_classifier s c (function_ty a b) = either (s.classifier c) _ _ (right_classifier s c a) (right_classifier s c b)
right_classifier s c (code_ty e a) =
    where_right (s.classifier c) (s.classifier e) (nat_eq e c) _ (λ p. ap s.classifier (eqb-true e c p))
    (right_classifier s c a)
right_classifier s c (closed_ty a) = right_classifier s c a

-- there is one
abbrev IsThere : {A : Type 0} → Option A → Type 0
IsThere (Some x) = Unit {0}
IsThere None = ⊥

there_left : {A : Type 0} (p q : Option A) → IsThere p → IsThere (or_else p q)
there_left (Some x) q h = h
there_left None q h = absurd h

there_right : {A : Type 0} (p q : Option A) → IsThere q → IsThere (or_else p q)
there_right (Some x) q h = tt
there_right None q h = h

there_same : {A : Type 0} (x : A) (b : Bool) (q : Option A) → b ≡ true → IsThere (cond b (Some x) q)
there_same x true q p = tt
there_same x false q p = absurd (cc)

there_other : {A : Type 0} (x : A) (b : Bool) (q : Option A) → IsThere q → IsThere (cond b (Some x) q)
there_other x true q h = tt
there_other x false q h = h

taken : {A : Type 0} (x d : A) (p : Option A) → IsRight x p → IsThere p → or p d ≡ x
taken x d (Some y) (answer e) h = e
taken x d None r h = absurd h

-- a part of a root, whose numbers all have answers in the root, is made the same by the candidate
module _ (s : Substitution) (root : TypeExpression) where
  record Part (a : TypeExpression) : Type 0 where
    types : (u : ℕ) → IsThere (type_for u a (apply s a)) → IsThere (type_for u root (apply s root))
    classifiers : (c : ℕ) → IsThere (classifier_for c a (apply s a)) → IsThere (classifier_for c root (apply s root))

  -- parts of which the whole is a part
  halves : (a b : TypeExpression)
      → ((u : ℕ) → IsThere (or_else (type_for u a (apply s a)) (type_for u b (apply s b)))
      → IsThere (type_for u root (apply s root)))
      → ((c : ℕ) → IsThere (or_else (classifier_for c a (apply s a)) (classifier_for c b (apply s b)))
      → IsThere (classifier_for c root (apply s root)))
      → Part a × Part b
  halves a b f g = (
    record { types = λ u q. f u (there_left _ _ q); classifiers = λ c q. g c (there_left _ _ q) },
    record { types = λ u q. f u (there_right _ _ q); classifiers = λ c q. g c (there_right _ _ q) },
  )

  made_same : (a : TypeExpression) → Part a → apply (candidate root (apply s root)) a ≡ apply s a
  made_same int_ty h = refl
  made_same bool_ty h = refl
  made_same (unknown v) h =
      taken (s.ty v) int_ty _ (right_type s v root)
      (h.types v (there_same (s.ty v) (nat_eq v v) None (eq-eqb v v refl)))
  made_same (pair_ty a b) h =
      let c = halves a b h.types h.classifiers in
      let p = made_same a c.0 in
      let q = made_same b c.1 in
      rw (p, q) refl
  made_same (function_ty a b) h =
      let c = halves a b h.types h.classifiers in
      let p = made_same a c.0 in
      let q = made_same b c.1 in
      rw (p, q) refl
  made_same (code_ty e a) h =
      let here = there_same (s.classifier e) (nat_eq e e) (classifier_for e a (apply s a)) (eq-eqb e e refl) in
      let n = taken (s.classifier e) 0 _ (right_classifier s e root) (h.classifiers e here) in
      let below : Part a = record {
        types = λ u q. h.types u q;
        classifiers = λ c q. h.classifiers c (there_other (s.classifier e) (nat_eq e c) _ q);
      } in
      let p = made_same a below in
      rw (n, p) refl
  made_same (closed_ty a) h =
      let p = made_same a (record { types = h.types; classifiers = h.classifiers }) in rw p refl

-- so a type is made from a root exactly where the candidate makes it
pub made_by_candidate : (root t : TypeExpression) → IsMadeFrom root t → apply (candidate root t) root ≡ t
made_by_candidate root t h =
    rw (sym h.gives) (made_same h.by root root (record { types = λ u q. q; classifiers = λ c q. q }))

-- whether types are the same
pub type_same : (s t : TypeExpression) → same_type s t ≡ true → s ≡ t
type_same int_ty int_ty h = refl
type_same bool_ty bool_ty h = refl
type_same (unknown u) (unknown v) h = ap unknown (eqb-true u v h)
type_same (pair_ty s t) (pair_ty u v) h =
    let p = and-both (same_type s u) (same_type t v) h in
    rw (type_same s u p.0, type_same t v p.1) refl
type_same (function_ty s t) (function_ty u v) h =
    let p = and-both (same_type s u) (same_type t v) h in
    rw (type_same s u p.0, type_same t v p.1) refl
type_same (code_ty c t) (code_ty d u) h =
    let p = and-both (nat_eq c d) (same_type t u) h in
    rw (eqb-true c d p.0, type_same t u p.1) refl
type_same (closed_ty t) (closed_ty u) h = ap closed_ty (type_same t u h)
type_same _ _ h = absurd (cc)

pub same_type-refl : (t : TypeExpression) → same_type t t ≡ true
same_type-refl int_ty = refl
same_type-refl bool_ty = refl
same_type-refl (unknown u) = eq-eqb u u refl
same_type-refl (pair_ty s t) = and-true _ _ (same_type-refl s) (same_type-refl t)
same_type-refl (function_ty s t) = and-true _ _ (same_type-refl s) (same_type-refl t)
same_type-refl (code_ty c t) = and-true _ _ (eq-eqb c c refl) (same_type-refl t)
same_type-refl (closed_ty t) = same_type-refl t

pub making_decided : (root t : TypeExpression) → (is_made root t ≡ true) ↔ IsMadeFrom root t
making_decided root t = (
  (λ h. record { by = candidate root t; gives = type_same (apply (candidate root t) root) t h }),
  (λ h. let e = made_by_candidate root t h in subst (λ x. same_type x t ≡ true) (sym e) (same_type-refl t)),
)

-- whether a classifier stands in a type
pub classifier_absent : (a : ℕ) (t : TypeExpression) → is_in a t ≡ false → IsNotIn a t
classifier_absent a int_ty h = tt
classifier_absent a bool_ty h = tt
classifier_absent a (unknown u) h = tt
classifier_absent a (pair_ty s t) h =
    let p = either-false _ _ h in (classifier_absent a s p.0, classifier_absent a t p.1)
classifier_absent a (function_ty s t) h =
    let p = either-false _ _ h in (classifier_absent a s p.0, classifier_absent a t p.1)
classifier_absent a (code_ty c t) h =
    let p = either-false (nat_eq c a) (is_in a t) h in
    (eqb-false c a p.0, classifier_absent a t p.1)
classifier_absent a (closed_ty t) h = classifier_absent a t h

pub absent_classifier : (a : ℕ) (t : TypeExpression) → IsNotIn a t → is_in a t ≡ false
absent_classifier a int_ty h = refl
absent_classifier a bool_ty h = refl
absent_classifier a (unknown u) h = refl
absent_classifier a (pair_ty s t) h = both-false _ _ (absent_classifier a s h.0) (absent_classifier a t h.1)
absent_classifier a (function_ty s t) h = both-false _ _ (absent_classifier a s h.0) (absent_classifier a t h.1)
absent_classifier a (code_ty c t) h = both-false _ _ (ne_eqb c a h.0) (absent_classifier a t h.1)
absent_classifier a (closed_ty t) h = absent_classifier a t h
