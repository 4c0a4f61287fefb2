-- A most general solution of equations, on their own numbers.
use Rattle.std.proofs.Common.{◌≡◌, ◌≢◌, ◌⊎◌, inl, inr, ℕ, zero, suc, ◌<◌, List, refl, ap, sym, ◌∙◌, arith}
use Rattle.mw_term.specs.Types.{TermType, int_type, code_type}
use Rattle.mw_types.specs.Types.{TypeExpression, int_ty, bool_ty, unknown, pair_ty, function_ty, code_ty, closed_ty}
use Rattle.mw_types.specs.Types.{Within, Assignment, value, nodes, Substitution, after, apply}
use Rattle.mw_types.specs.Equations.{TypeEquation, AllWithin, Agree, MostGeneral, StaysWithin}
use Rattle.mw_types.proofs.Lists.{Is, same, other, is}
use Rattle.mw_types.proofs.Existence.{value_apply, solves_same}
use Rattle.mw_cert.proofs.MarkedTypes.{weight, both_none, one_none, code_none, IsUnmarked, unmarked}

-- a number below a bound has the property, or none has
abbrev FoundBelow : (ℕ → Type 0) → ℕ → Type 0
FoundBelow P n = ((u : ℕ) × (u < n) × P u) ⊎ ((u : ℕ) → u < n → P u → ⊥)

search_below : (P : ℕ → Type 0) → ((u : ℕ) → P u ⊎ (P u → ⊥)) → (n : ℕ) → FoundBelow P n
search_below P d zero = inr (λ u lt h. absurd (omega arith))
search_below P d (suc n) = step (search_below P d n) (d n)
  where
    step : FoundBelow P n → P n ⊎ (P n → ⊥) → FoundBelow P (suc n)
    step (inl f) e = inl (f.0, omega (arith, f.1), f.2)
    step (inr none) (inl h) = inl (n, omega arith, h)
    step (inr none) (inr never) = inr (λ u lt h. elim (is u n) [
      | same e ↦ never (rw e at h)
      | other f ↦ none u (omega arith) h
    ])

is_unknown : (v : ℕ) (t : TypeExpression) → (t ≡ unknown v) ⊎ (t ≡ unknown v → ⊥)
is_unknown v (unknown w) = elim (is w v) [ same e ↦ inl (ap unknown e) | other f ↦ inr (λ e. f (cc)) ]
is_unknown v _ = inr (λ e. cc)

is_number : (i j : ℕ) → (i ≡ j) ⊎ (i ≡ j → ⊥)
is_number i j = elim (is i j) [ same e ↦ inl e | other f ↦ inr f ]

-- a marked type for one unknown
abbrev marked : {v u : ℕ} → Is v u → TermType
marked (same e) = code_type 1 int_type
marked (other f) = int_type

-- the mark for one classifier unknown
abbrev mark : {c d : ℕ} → Is c d → ℕ
mark (same e) = 1
mark (other f) = 0

module _ (n m : ℕ) (s : Substitution) where
  -- an unknown that is a type of the solution's own, and such a classifier
  find_unknown : (v : ℕ) → FoundBelow (λ u. s.ty u ≡ unknown v) n
  find_unknown v = search_below (λ u. s.ty u ≡ unknown v) (λ u. is_unknown v (s.ty u)) n

  find_classifier : (c : ℕ) → FoundBelow (λ d. s.classifier d ≡ c) m
  find_classifier c = search_below (λ d. s.classifier d ≡ c) (λ d. is_number (s.classifier d) c) m

  -- all unknowns and classifiers of a type are such
  abbrev IsNamed : TypeExpression → Type 0
  IsNamed int_ty = Unit {0}
  IsNamed bool_ty = Unit {0}
  IsNamed (unknown v) = (u : ℕ) × (u < n) × (s.ty u ≡ unknown v)
  IsNamed (pair_ty l r) = IsNamed l × IsNamed r
  IsNamed (function_ty l r) = IsNamed l × IsNamed r
  IsNamed (code_ty c t) = ((d : ℕ) × (d < m) × (s.classifier d ≡ c)) × IsNamed t
  IsNamed (closed_ty t) = IsNamed t

  abbrev StaysUnmarked : TypeExpression → Type 0
  StaysUnmarked t = (b : Assignment) → IsUnmarked n m s b → weight (value b t) ≡ 0

  -- else a mark could be put there
  unknown_named : (v : ℕ) → StaysUnmarked (unknown v) → IsNamed (unknown v)
  unknown_named v h = elim (find_unknown v) [
    | inl f ↦ f
    | inr none ↦ absurd (seen (is v v) (h (record { ty = λ w. marked (is w v); classifier = λ c. 0 })
        (record { names = λ c lt e. omega arith; types = λ u w lt e. unseen none u w lt e (is w v) })))
  ]
    where
      seen : (d : Is v v) → weight (marked d) ≡ 0 → ⊥
      seen (same e) k = (code_none (is 1 1) 0 k).0 refl
      seen (other f) k = f refl

      unseen : ((u : ℕ) → u < n → s.ty u ≡ unknown v → ⊥) → (u w : ℕ) → u < n → s.ty u ≡ unknown w → (d : Is w v)
          → weight (marked d) ≡ 0
      unseen none u w lt e (same q) = absurd (none u lt (e ∙ ap unknown q))
      unseen none u w lt e (other f) = refl

  classifier_named : (c : ℕ) (t : TypeExpression) → StaysUnmarked (code_ty c t)
      → (d : ℕ) × (d < m) × (s.classifier d ≡ c)
  classifier_named c t h = elim (find_classifier c) [
    | inl f ↦ f
    | inr none ↦ absurd (seen (is c c) (code_none (is (mark (is c c)) 1) _
        (h (record { ty = λ w. int_type; classifier = λ d. mark (is d c) })
        (record { names = λ d lt. unseen none d lt (is (s.classifier d) c); types = λ u w lt e. refl }))).0)
  ]
    where
      seen : (d : Is c c) → mark d ≢ 1 → ⊥
      seen (same e) k = k refl
      seen (other f) k = f refl

      unseen : ((d : ℕ) → d < m → s.classifier d ≡ c → ⊥) → (d : ℕ) → d < m → (k : Is (s.classifier d) c) → mark k ≢ 1
      unseen none d lt (same e) q = none d lt e
      unseen none d lt (other f) q = absurd (omega arith)

  all_named : (t : TypeExpression) → StaysUnmarked t → IsNamed t
  all_named int_ty h = tt
  all_named bool_ty h = tt
  all_named (unknown v) h = unknown_named v h
  all_named (pair_ty l r) h =
      (all_named l (λ b f. (both_none _ _ (h b f)).0), all_named r (λ b f. (both_none _ _ (h b f)).1))
  all_named (function_ty l r) h =
      (all_named l (λ b f. (both_none _ _ (h b f)).0), all_named r (λ b f. (both_none _ _ (h b f)).1))
  all_named (code_ty c t) h = (classifier_named c t h, all_named t (λ b f. (code_none _ _ (h b f)).1))
  all_named (closed_ty t) h = all_named t (λ b f. one_none _ (h b f))

  -- the number of its own in the place of an unknown or of a classifier
  abbrev own_type : {v : ℕ} → FoundBelow (λ u. s.ty u ≡ unknown v) n → TypeExpression
  own_type (inl f) = unknown f.0
  own_type (inr none) = int_ty

  abbrev own_classifier : {c : ℕ} → FoundBelow (λ d. s.classifier d ≡ c) m → ℕ
  own_classifier (inl f) = f.0
  own_classifier (inr none) = 0

  abbrev back : Substitution
  back = record { ty = λ v. own_type (find_unknown v); classifier = λ c. own_classifier (find_classifier c) }

  abbrev inside : Substitution
  inside = record { ty = λ u. apply back (s.ty u); classifier = λ c. back.classifier (s.classifier c) }

  -- it has the same sizes, and stays within
  own_nodes : {v : ℕ} (d : FoundBelow (λ u. s.ty u ≡ unknown v) n) → nodes (own_type d) ≡ 1
  own_nodes (inl f) = refl
  own_nodes (inr none) = refl

  back_nodes : (t : TypeExpression) → nodes (apply back t) ≡ nodes t
  back_nodes int_ty = refl
  back_nodes bool_ty = refl
  back_nodes (unknown v) = own_nodes (find_unknown v)
  back_nodes (pair_ty l r) = rw (back_nodes l, back_nodes r) refl
  back_nodes (function_ty l r) = rw (back_nodes l, back_nodes r) refl
  back_nodes (code_ty c t) = rw (back_nodes t) refl
  back_nodes (closed_ty t) = rw (back_nodes t) refl

  type_within : {v : ℕ} (d : FoundBelow (λ u. s.ty u ≡ unknown v) n) → Within n m (own_type d)
  type_within (inl f) = f.1
  type_within (inr none) = tt

  classifier_within : {c : ℕ} (d : FoundBelow (λ d. s.classifier d ≡ c) m) → (e : ℕ) × (e < m) × (s.classifier e ≡ c)
      → own_classifier d < m
  classifier_within (inl f) h = f.1
  classifier_within (inr none) h = absurd (none h.0 h.1 h.2)

  back_within : (t : TypeExpression) → IsNamed t → Within n m (apply back t)
  back_within int_ty h = tt
  back_within bool_ty h = tt
  back_within (unknown v) h = type_within (find_unknown v)
  back_within (pair_ty l r) h = (back_within l h.0, back_within r h.1)
  back_within (function_ty l r) h = (back_within l h.0, back_within r h.1)
  back_within (code_ty c t) h = (classifier_within (find_classifier c) h.0, back_within t h.1)
  back_within (closed_ty t) h = back_within t h

  -- what a solution has for its own numbers, it has for those that these stand for
  module _ (a b : Assignment) (agree : Agree n m a (after b s)) where
    own_value : {v : ℕ} (d : FoundBelow (λ u. s.ty u ≡ unknown v) n) → IsNamed (unknown v) → value a (own_type d)
        ≡ b.ty v
    own_value (inl f) h = agree.types f.0 f.1 ∙ ap (value b) f.2
    own_value (inr none) h = absurd (none h.0 h.1 h.2)

    own_name : {c : ℕ} (d : FoundBelow (λ d. s.classifier d ≡ c) m) → (e : ℕ) × (e < m) × (s.classifier e ≡ c)
        → a.classifier (own_classifier d) ≡ b.classifier c
    own_name (inl f) h = agree.classifiers f.0 f.1 ∙ ap b.classifier f.2
    own_name (inr none) h = absurd (none h.0 h.1 h.2)

    back_value : (t : TypeExpression) → IsNamed t → value a (apply back t) ≡ value b t
    back_value int_ty h = refl
    back_value bool_ty h = refl
    back_value (unknown v) h = own_value (find_unknown v) h
    back_value (pair_ty l r) h = rw (back_value l h.0, back_value r h.1) refl
    back_value (function_ty l r) h = rw (back_value l h.0, back_value r h.1) refl
    back_value (code_ty c t) h = rw (own_name (find_classifier c) h.0, back_value t h.1) refl
    back_value (closed_ty t) h = rw (back_value t h) refl

  module _ (es : List TypeEquation) (within : AllWithin n m es) (most : MostGeneral n m es s) where
    is_named : (u : ℕ) → u < n → IsNamed (s.ty u)
    is_named u lt = all_named (s.ty u) (λ b f. unmarked n m es s within most b f u lt)

    stays_within : StaysWithin n m inside
    stays_within = record {
      types = λ u lt. back_within (s.ty u) (is_named u lt);
      classifiers = λ c lt. classifier_within (find_classifier (s.classifier c)) (c, lt, refl);
    }

    most_general : MostGeneral n m es inside
    most_general = record {
      sound = λ b. solves_same
          (record { types = λ u. sym (value_apply b back (s.ty u)); classifiers = λ c. refl }) es
          (most.sound (after b back));
      general = λ a h. let f = most.general a h in (
        a,
        record {
          types = λ u lt. f.1.types u lt ∙ sym (back_value a f.0 f.1 (s.ty u) (is_named u lt));
          classifiers = λ c lt. f.1.classifiers c lt
              ∙ sym (own_name a f.0 f.1 (find_classifier (s.classifier c)) (c, lt, refl));
        },
      );
    }

-- so there is a most general solution on the equations' own numbers, with types of the same sizes
pub most_general_within : (n m : ℕ) (es : List TypeEquation) (s : Substitution) → AllWithin n m es
    → MostGeneral n m es s
    → (t : Substitution) × MostGeneral n m es t × StaysWithin n m t × ((u : ℕ) → nodes (t.ty u) ≡ nodes (s.ty u))
most_general_within n m es s w g = (
  inside n m s,
  most_general n m s es w g,
  stays_within n m s es w g,
  λ u. back_nodes n m s (s.ty u),
)
