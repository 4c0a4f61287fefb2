-- A classifier that marks types stands in no type of a most general solution, where it is none of the solution's own:
-- else the smallest marked types could be cut out, and what is left would be a solution that is no instance.
use Rattle.std.proofs.Common.{◌≡◌, ◌≢◌, ◌⊎◌, inl, inr, ℕ, zero, suc, ◌+◌, ◌≤◌, ◌<◌, List, [], ◌∷◌, refl, sym, ◌∙◌}
use Rattle.std.proofs.Common.{arith}
use Rattle.mw_term.specs.Types.{TermType, int_type, bool_type, pair_type, function_type, code_type, closed_type}
use Rattle.mw_types.specs.Types.{TypeExpression, int_ty, bool_ty, unknown, pair_ty, function_ty, code_ty, closed_ty}
use Rattle.mw_types.specs.Types.{Within, Assignment, value, Substitution, after}
use Rattle.mw_types.specs.Equations.{TypeEquation, AllWithin, Solves, MostGeneral}
use Rattle.mw_types.proofs.Lists.{Is, same, other, is}

-- one more, unless there is nothing
abbrev bump : ℕ → ℕ
bump zero = 0
bump (suc n) = suc (suc n)

abbrev code_weight : {c : ℕ} → Is c 1 → ℕ → ℕ
code_weight (same e) n = suc n
code_weight (other f) n = bump n

-- The weight of a type is above that of its parts where the classifier 1, the mark, stands in it, and else it is 0.
abbrev pub weight : TermType → ℕ
weight int_type = 0
weight bool_type = 0
weight (pair_type s t) = bump (weight s + weight t)
weight (function_type s t) = bump (weight s + weight t)
weight (code_type c t) = code_weight (is c 1) (weight t)
weight (closed_type t) = bump (weight t)

pub one_none : (n : ℕ) → bump n ≡ 0 → n ≡ 0
one_none zero h = refl
one_none (suc n) h = absurd (omega arith)

pub both_none : (x y : ℕ) → bump (x + y) ≡ 0 → (x ≡ 0) × (y ≡ 0)
both_none x y h = let e = one_none (x + y) h in (omega arith, omega arith)

pub code_none : {c : ℕ} (d : Is c 1) (n : ℕ) → code_weight d n ≡ 0 → (c ≢ 1) × (n ≡ 0)
code_none (same e) n h = absurd (omega arith)
code_none (other f) n h = (f, one_none n h)

-- nothing, or as much as this
abbrev IsFar : ℕ → ℕ → Type 0
IsFar k x = (x ≡ 0) ⊎ (k ≤ x)

far_bump : (k x : ℕ) → IsFar k x → IsFar (suc k) (bump x)
far_bump k zero h = inl refl
far_bump k (suc x) (inl e) = absurd (omega arith)
far_bump k (suc x) (inr le) = inr (omega arith)

far_both : (k x y : ℕ) → IsFar k x → IsFar k y → IsFar (suc k) (bump (x + y))
far_both k x y (inl e) (inl f) = far_bump k (x + y) (inl (omega arith))
far_both k x y (inl e) (inr le) = far_bump k (x + y) (inr (omega arith))
far_both k x y (inr le) h = far_bump k (x + y) (inr (omega arith))

far_code : (k : ℕ) {c : ℕ} (d : Is c 1) (x : ℕ) → c ≢ 1 → IsFar k x → IsFar (suc k) (code_weight d x)
far_code k (same e) x n h = absurd (n e)
far_code k (other f) x n h = far_bump k x h

weaker : (k x : ℕ) → IsFar (suc k) x → IsFar k x
weaker k x (inl e) = inl e
weaker k x (inr le) = inr (omega arith)

-- something, and no more than this, or not
data Near (k x : ℕ) : Type 0 where
  near : 1 ≤ x → x ≤ k → Near k x
  far : IsFar (suc k) x → Near k x

near_or_far : (k x : ℕ) → Near k x
near_or_far k zero = far (inl refl)
near_or_far zero (suc x) = far (inr (omega arith))
near_or_far (suc k) (suc x) = elim (near_or_far k x) [
  | near a b ↦ near (omega arith) (omega arith)
  | far f ↦ from_far f
]
  where
    from_far : IsFar (suc k) x → Near (suc k) (suc x)
    from_far (inl e) = near (omega arith) (omega arith)
    from_far (inr le) = far (inr (omega arith))

-- a type, and int in its place where its weight is low
abbrev chosen : {k x : ℕ} → Near k x → TermType → TermType
chosen (near a b) t = int_type
chosen (far f) t = t

chosen_near : {k x : ℕ} (d : Near k x) (t : TermType) → 1 ≤ x → x ≤ k → chosen d t ≡ int_type
chosen_near (near a b) t p q = refl
chosen_near (far (inl e)) t p q = absurd (omega arith)
chosen_near (far (inr le)) t p q = absurd (omega arith)

chosen_far : {k x : ℕ} (d : Near k x) (t : TermType) → IsFar (suc k) x → chosen d t ≡ t
chosen_far (near a b) t (inl e) = absurd (omega arith)
chosen_far (near a b) t (inr le) = absurd (omega arith)
chosen_far (far f) t h = refl

-- the type without its parts of low weight
abbrev cut : ℕ → TermType → TermType
cut k int_type = int_type
cut k bool_type = bool_type
cut k (pair_type s t) = chosen (near_or_far k (weight (pair_type s t))) (pair_type (cut k s) (cut k t))
cut k (function_type s t) = chosen (near_or_far k (weight (function_type s t))) (function_type (cut k s) (cut k t))
cut k (code_type c t) = chosen (near_or_far k (weight (code_type c t))) (code_type c (cut k t))
cut k (closed_type t) = chosen (near_or_far k (weight (closed_type t))) (closed_type (cut k t))

cut_near : (k : ℕ) (t : TermType) → 1 ≤ weight t → weight t ≤ k → cut k t ≡ int_type
cut_near k int_type p q = refl
cut_near k bool_type p q = absurd (omega arith)
cut_near k (pair_type s t) p q = chosen_near (near_or_far k (weight (pair_type s t))) _ p q
cut_near k (function_type s t) p q = chosen_near (near_or_far k (weight (function_type s t))) _ p q
cut_near k (code_type c t) p q = chosen_near (near_or_far k (weight (code_type c t))) _ p q
cut_near k (closed_type t) p q = chosen_near (near_or_far k (weight (closed_type t))) _ p q

-- Where no unknown's type has a low weight, what an assignment makes of a larger type has none.
module _ (n m k : ℕ) (a : Assignment) (types : (u : ℕ) → u < n → IsFar k (weight (a.ty u)))
    (names : (c : ℕ) → c < m → a.classifier c ≢ 1) where
  value_far : (t : TypeExpression) → Within n m t → IsFar k (weight (value a t))
  value_far int_ty w = inl refl
  value_far bool_ty w = inl refl
  value_far (unknown u) w = types u w
  value_far (pair_ty s t) w = weaker k _ (far_both k _ _ (value_far s w.0) (value_far t w.1))
  value_far (function_ty s t) w = weaker k _ (far_both k _ _ (value_far s w.0) (value_far t w.1))
  value_far (code_ty c t) w = weaker k _ (far_code k (is (a.classifier c) 1) _ (names c w.0) (value_far t w.1))
  value_far (closed_ty t) w = weaker k _ (far_bump k _ (value_far t w))

  -- so it can be cut
  abbrev cutting : Assignment
  cutting = record { ty = λ u. cut k (a.ty u); classifier = a.classifier }

  value_cut : (t : TypeExpression) → Within n m t → value cutting t ≡ cut k (value a t)
  value_cut int_ty w = refl
  value_cut bool_ty w = refl
  value_cut (unknown u) w = refl
  value_cut (pair_ty s t) w =
      rw (value_cut s w.0, value_cut t w.1)
      (sym (chosen_far (near_or_far k _) _ (far_both k _ _ (value_far s w.0) (value_far t w.1))))
  value_cut (function_ty s t) w =
      rw (value_cut s w.0, value_cut t w.1)
      (sym (chosen_far (near_or_far k _) _ (far_both k _ _ (value_far s w.0) (value_far t w.1))))
  value_cut (code_ty c t) w =
      rw (value_cut t w.1)
      (sym (chosen_far (near_or_far k _) _
      (far_code k (is (a.classifier c) 1) _ (names c w.0) (value_far t w.1))))
  value_cut (closed_ty t) w =
      rw (value_cut t w) (sym (chosen_far (near_or_far k _) _ (far_bump k _ (value_far t w))))

  cut_solves : (es : List TypeEquation) → AllWithin n m es → Solves a es → Solves cutting es
  cut_solves [] w h = tt
  cut_solves (e ∷ es) w h =
      (rw (value_cut e.left w.0.0, value_cut e.right w.0.1, h.0) refl, cut_solves es w.1 h.1)

-- a type that becomes int is int or an unknown
becomes_int : (a b : Assignment) (t : TypeExpression) → value a t ≡ int_type
    → ((w : ℕ) → t ≡ unknown w → weight (b.ty w) ≡ 0) → weight (value b t) ≡ 0
becomes_int a b int_ty e f = refl
becomes_int a b bool_ty e f = refl
becomes_int a b (unknown w) e f = f w refl
becomes_int a b _ e f = absurd (cc)

-- with this assignment the mark is none of the solution's own classifiers, and stands in no type of an unknown that is
-- a type of the solution
pub record IsUnmarked (n m : ℕ) (s : Substitution) (b : Assignment) : Type 0 where
  pub names : (c : ℕ) → c < m → b.classifier (s.classifier c) ≢ 1
  pub types : (u w : ℕ) → u < n → s.ty u ≡ unknown w → weight (b.ty w) ≡ 0

module _ (n m : ℕ) (es : List TypeEquation) (s : Substitution) (within : AllWithin n m es)
    (most : MostGeneral n m es s) (b : Assignment) (free : IsUnmarked n m s b) where
  is_far : (k u : ℕ) → u < n → IsFar k (weight (value b (s.ty u)))
  is_far zero u lt = inr (omega arith)
  is_far (suc k) u lt = elim (near_or_far k (weight (value b (s.ty u)))) [
    | far f ↦ f
    | near p q ↦
        let g = most.general (cutting n m k (after b s) (is_far k) free.names)
        (cut_solves n m k (after b s) (is_far k) free.names es within (most.sound b)) in
        inl (becomes_int g.0 b (s.ty u) (sym (g.1.types u lt) ∙ cut_near k (value b (s.ty u)) p q)
        (λ w. free.types u w lt))
  ]

  pub unmarked : (u : ℕ) → u < n → weight (value b (s.ty u)) ≡ 0
  unmarked u lt = elim (is_far (suc (weight (value b (s.ty u)))) u lt) [
    | inl e ↦ e
    | inr le ↦ absurd (omega arith)
  ]
