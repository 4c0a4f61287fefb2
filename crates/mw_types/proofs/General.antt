-- A state without a cycle and with nothing that waits: what its nodes stand for is its most general solution.
use Rattle.std.proofs.Common.{◌≡◌, ◌≢◌, ◌⊎◌, inl, inr, ℕ, ◌≤◌, ◌<◌, List, [], length, refl, ap, sym, subst, ◌∙◌, arith}
use Rattle.std.specs.Prelude.{slice_index_or}
use Rattle.mw_types.specs.Equations.{Agree}
use Rattle.mw_types.specs.Types.{TypeExpression, int_ty, bool_ty, unknown, pair_ty, function_ty, code_ty, closed_ty}
use Rattle.mw_types.specs.Types.{Assignment, value, Substitution, after}
use Rattle.mw_types.specs.Forest.{Low, Same}
use Rattle.mw_types.specs.Satisfying.{Meets, Satisfies, Inside}
use Rattle.mw_types.specs.Stands.{Settled, Stands, s_up, s_free, s_int, s_bool, s_pair, s_arrow, s_code, s_closed}
use Rattle.mw_types.specs.declared.state.Shape.{Shape}
use Rattle.mw_types.specs.declared.state.Shape.TheVariants.{Free, Int, Bool, Pair, Arrow, Code, Closed}
use Rattle.std.proofs.Math.ListN.{get_or-eq_default}
use Rattle.mw_types.proofs.Lists.{same, other, is}

-- in each solution a node has the value of the type that it stands for
pub stands_value : (ps : List ℕ) (hs : List Shape) (cs : List ℕ) (classifier : ℕ → ℕ) (a : Assignment) → Same ps a.ty
    → ((i : ℕ) → Meets (slice_index_or hs i Free) (a.ty i) a)
    → ((c : ℕ) → c < length cs → a.classifier (classifier c) ≡ a.classifier c)
    → ((i : ℕ) → Inside (length ps) (length cs) (slice_index_or hs i Free)) → {i : ℕ} {t : TypeExpression}
    → Stands ps hs classifier i t → value a t ≡ a.ty i
stands_value ps hs cs classifier a s m k j (s_up {i = i} lt e n h) = stands_value ps hs cs classifier a s m k j h
    ∙ ap a.ty e ∙ sym (s i lt)
stands_value ps hs cs classifier a s m k j (s_free r e) = refl
stands_value ps hs cs classifier a s m k j (s_int {i = i} r e) = sym (rw e at (m i))
stands_value ps hs cs classifier a s m k j (s_bool {i = i} r e) = sym (rw e at (m i))
stands_value ps hs cs classifier a s m k j (s_pair {i = i} r e p q) =
    rw (stands_value ps hs cs classifier a s m k j p, stands_value ps hs cs classifier a s m k j q)
    (sym (rw e at (m i)))
stands_value ps hs cs classifier a s m k j (s_arrow {i = i} r e p q) =
    rw (stands_value ps hs cs classifier a s m k j p, stands_value ps hs cs classifier a s m k j q)
    (sym (rw e at (m i)))
stands_value ps hs cs classifier a s m k j (s_code {i = i} {c = c} r e d p) =
    rw (stands_value ps hs cs classifier a s m k j p, d, k c ((rw e at (j i)).0)) (sym (rw e at (m i)))
stands_value ps hs cs classifier a s m k j (s_closed {i = i} r e p) = rw (stands_value ps hs cs classifier a s m k j p)
    (sym (rw e at (m i)))

-- what a representative's shape says of the type that it stands for
abbrev pub Inv : List ℕ → List Shape → (ℕ → ℕ) → Shape → ℕ → TypeExpression → Type 0
Inv ps hs classifier Free i t = t ≡ unknown i
Inv ps hs classifier Int i t = t ≡ int_ty
Inv ps hs classifier Bool i t = t ≡ bool_ty
Inv ps hs classifier (Pair l r) i t = (s : TypeExpression) × (u : TypeExpression) × (t ≡ pair_ty s u)
    × Stands ps hs classifier l s × Stands ps hs classifier r u
Inv ps hs classifier (Arrow l r) i t = (s : TypeExpression) × (u : TypeExpression) × (t ≡ function_ty s u)
    × Stands ps hs classifier l s × Stands ps hs classifier r u
Inv ps hs classifier (Code c r) i t = (u : TypeExpression) × (t ≡ code_ty (classifier c) u)
    × Stands ps hs classifier r u
Inv ps hs classifier (Closed r) i t = (u : TypeExpression) × (t ≡ closed_ty u) × Stands ps hs classifier r u

pub root_inv : {ps : List ℕ} {hs : List Shape} {classifier : ℕ → ℕ} {i : ℕ} {t : TypeExpression} → slice_index_or ps i 0
    ≡ i → Stands ps hs classifier i t → Inv ps hs classifier (slice_index_or hs i Free) i t
root_inv o (s_up lt e n h) = absurd (n (e ∙ o))
root_inv o (s_free r e) = rw e refl
root_inv o (s_int r e) = rw e refl
root_inv o (s_bool r e) = rw e refl
root_inv o (s_pair r e p q) = rw e (_, _, refl, p, q)
root_inv o (s_arrow r e p q) = rw e (_, _, refl, p, q)
root_inv o (s_code {t = t} r e d p) = rw e (t, ap (λ x. code_ty x t) d, p)
root_inv o (s_closed r e p) = rw e (_, refl, p)

pub up_inv : {ps : List ℕ} {hs : List Shape} {classifier : ℕ → ℕ} {i : ℕ} {t : TypeExpression} (p : ℕ)
    → p ≡ slice_index_or ps i 0 → p ≢ i → Stands ps hs classifier i t → Stands ps hs classifier p t
up_inv {ps = ps} {hs = hs} {classifier = classifier} {t = t} p e n (s_up lt f m h) =
    subst (λ x. Stands ps hs classifier x t) (f ∙ sym e) h
up_inv p e n (s_free r f) = absurd (n (e ∙ r))
up_inv p e n (s_int r f) = absurd (n (e ∙ r))
up_inv p e n (s_bool r f) = absurd (n (e ∙ r))
up_inv p e n (s_pair r f h k) = absurd (n (e ∙ r))
up_inv p e n (s_arrow r f h k) = absurd (n (e ∙ r))
up_inv p e n (s_code r f d h) = absurd (n (e ∙ r))
up_inv p e n (s_closed r f h) = absurd (n (e ∙ r))

-- a node stands for one type
pub unique : {ps : List ℕ} {hs : List Shape} {classifier : ℕ → ℕ} {i : ℕ} {t u : TypeExpression}
    → Stands ps hs classifier i t → Stands ps hs classifier i u → t ≡ u
unique (s_up lt e n h) k = unique h (up_inv _ e n k)
unique (s_free r e) k = sym (rw e at (root_inv r k))
unique (s_int r e) k = sym (rw e at (root_inv r k))
unique (s_bool r e) k = sym (rw e at (root_inv r k))
unique (s_pair r e p q) k = let x = rw e at (root_inv r k) in rw (unique p x.3, unique q x.4) (sym x.2)
unique (s_arrow r e p q) k = let x = rw e at (root_inv r k) in rw (unique p x.3, unique q x.4) (sym x.2)
unique (s_code r e d p) k = let x = rw e at (root_inv r k) in rw (unique p x.2, d) (sym x.1)
unique (s_closed r e p) k = let x = rw e at (root_inv r k) in rw (unique p x.2) (sym x.1)

pub in_or_out : {A : Type 0} (xs : List A) (i : ℕ) → (i < length xs) ⊎ (length xs ≤ i)
in_or_out xs i = grind arith

module _ (ps : List ℕ) (hs : List Shape) (cs : List ℕ) (s : Substitution) (low : Low ps)
    (lengths : length hs ≡ length ps)
    (bare : (i : ℕ) → i < length ps → slice_index_or ps i 0 ≢ i → slice_index_or hs i Free ≡ Free)
    (inside : (i : ℕ) → Inside (length ps) (length cs) (slice_index_or hs i Free))
    (settled : Settled ps hs cs s) where
  below : (b : Assignment) (i : ℕ) (h : Shape) → Inside (length ps) (length cs) h → Inv ps hs s.classifier h i (s.ty i)
      → Meets h (value b (s.ty i)) (after b s)
  below b i Free n v = tt
  below b i Int n v = rw v refl
  below b i Bool n v = rw v refl
  below b i (Pair l r) n v = ap (value b) v.2 ∙ rw (unique (settled.each l n.0) v.3, unique (settled.each r n.1) v.4)
      refl
  below b i (Arrow l r) n v = ap (value b) v.2 ∙ rw (unique (settled.each l n.0) v.3, unique (settled.each r n.1) v.4)
      refl
  below b i (Code c r) n v = ap (value b) v.1 ∙ rw (unique (settled.each r n.1) v.2) refl
  below b i (Closed r) n v = ap (value b) v.1 ∙ rw (unique (settled.each r n) v.2) refl

  -- whatever follows the solution meets the state
  pub settled_sound : (b : Assignment) → Satisfies ps hs cs [] (after b s)
  settled_sound b = record {
    types = λ i lt. elim (is (slice_index_or ps i 0) i) [
      | same e ↦ ap (λ x. value b (s.ty x)) (sym e)
      | other n ↦ ap (value b)
          (unique (up_inv _ refl n (settled.each i lt))
          (settled.each (slice_index_or ps i 0) (omega (arith, low i lt))))
    ];
    classifiers = λ c lt. ap b.classifier (settled.names.one c lt);
    shapes = λ i. elim (in_or_out ps i) [
      | inl lt ↦ elim (is (slice_index_or ps i 0) i) [
        | same e ↦ below b i (slice_index_or hs i Free) (inside i) (root_inv e (settled.each i lt))
        | other n ↦ rw (bare i lt n) tt
      ]
      | inr le ↦ rw (get_or-eq_default hs Free {n = i} (let q = lengths in omega arith)) tt
    ];
    waits = tt;
  }

  -- and each solution is what follows it, by itself
  pub settled_general : (a : Assignment) → Satisfies ps hs cs [] a → Agree (length ps) (length cs) a (after a s)
  settled_general a h = record {
    types = λ u lt.
        sym (stands_value ps hs cs s.classifier a h.types h.shapes (settled.names.own a.classifier h.classifiers) inside
        (settled.each u lt));
    classifiers = λ c lt. sym (settled.names.own a.classifier h.classifiers c lt);
  }
