-- A let's root, with its numbers in order, is its most general type.
use Rattle.std.proofs.Common.{◌≡◌, ◌≢◌, ℕ, zero, suc, ◌+◌, ◌<◌, ◌≤◌, List, refl, ap, sym, arith}
use Rattle.mw_term.specs.Terms.{Expression}
use Rattle.mw_term.specs.Sources.{IsSource}
use Rattle.mw_term.specs.Typing.{TopLevel}
use Rattle.mw_term.specs.Parts.{let_place}
use Rattle.mw_types.specs.Types.{TypeExpression, int_ty, bool_ty, unknown, pair_ty, function_ty, code_ty, closed_ty}
use Rattle.mw_types.specs.Types.{Within, Assignment, value, nodes, apply, after}
use Rattle.mw_types.specs.Numbered.{IsNumbered, a_pair, a_function, code_seen, code_next}
use Rattle.mw_types.specs.Numbered.{a_closed}
use Rattle.mw_types.proofs.Existence.{value_apply}
use Rattle.mw_types.proofs.InOrder.{low, last, low_or_last}
use Rattle.mw_types.proofs.Lists.{Is, same, other, is}
use Rattle.mw_infer.specs.Inferring.{item_unknowns, item_classifiers, IsSchemeOf}
use Rattle.mw_infer.specs.Nodes.{NodeFacts, AreNodesOfPart}
use Rattle.mw_infer.proofs.Items.{most_general-scheme}
use Rattle.mw_infer.proofs.SameInstances.{IsSchemeOf-renumbered}
use Rattle.mw_agree.specs.Telling.{NewNumbers, renaming}

-- the old number of a new one, among those below a count
old : (ℕ → ℕ) → ℕ → ℕ → ℕ
old f zero v = 0
old f (suc n) v = elim (is (f n) v) [ same e ↦ n | other k ↦ old f n v ]

old-step : (f : ℕ → ℕ) (n u : ℕ) (d : Is (f n) (f u)) → ((v w : ℕ) → f v ≡ f w → v ≡ w) → ((n ≢ u) → old f n (f u) ≡ u)
    → elim d as (λ _. ℕ) [ same e ↦ n | other k ↦ old f n (f u) ] ≡ u
old-step f n u (same e) one h = one n u e
old-step f n u (other k) one h = h (λ e. k (ap f e))

old-one : (f : ℕ → ℕ) (n u : ℕ) → ((v w : ℕ) → f v ≡ f w → v ≡ w) → u < n → old f n (f u) ≡ u
unfolding old
old-one f zero u one lt = absurd (omega arith)
old-one f (suc n) u one lt = old-step f n u (is (f n) (f u)) one (λ k. elim (low_or_last n u lt)
    [ low i ↦ old-one f n u one i | last i ↦ absurd (k (sym i)) ])

module _ (r : NewNumbers) where
  -- an assignment by old numbers
  earlier : ℕ → ℕ → Assignment → Assignment
  earlier n m b = record { ty = λ v. b.ty (old r.unknown n v); classifier = λ v. b.classifier (old r.classifier m v) }

  value-earlier : (n m : ℕ) (b : Assignment) (t : TypeExpression) → Within n m t
      → value (earlier n m b) (apply (renaming r) t) ≡ value b t
  unfolding earlier
  value-earlier n m b int_ty w = refl
  value-earlier n m b bool_ty w = refl
  value-earlier n m b (unknown u) w = ap b.ty (old-one r.unknown n u r.one_unknown w)
  value-earlier n m b (pair_ty s t) w = rw (value-earlier n m b s w.0, value-earlier n m b t w.1) refl
  value-earlier n m b (function_ty s t) w = rw (value-earlier n m b s w.0, value-earlier n m b t w.1) refl
  value-earlier n m b (code_ty c t) w = rw (
    old-one r.classifier m c r.one_classifier w.0,
    value-earlier n m b t w.1,
  ) refl
  value-earlier n m b (closed_ty t) w = rw (value-earlier n m b t w) refl

  nodes-renamed : (t : TypeExpression) → nodes (apply (renaming r) t) ≡ nodes t
  nodes-renamed int_ty = refl
  nodes-renamed bool_ty = refl
  nodes-renamed (unknown u) = refl
  nodes-renamed (pair_ty s t) = rw (nodes-renamed s, nodes-renamed t) refl
  nodes-renamed (function_ty s t) = rw (nodes-renamed s, nodes-renamed t) refl
  nodes-renamed (code_ty c t) = rw (nodes-renamed t) refl
  nodes-renamed (closed_ty t) = rw (nodes-renamed t) refl

-- a type names no more numbers than it has nodes
record Few (n m k l : ℕ) (t : TypeExpression) : Type 0 where
  unknowns : k ≤ n + nodes t
  classifiers : l ≤ m + nodes t

few : {n m k l : ℕ} {t : TypeExpression} → IsNumbered n m t k l → Few n m k l t
few (a_pair a b) = let x = few a in let y = few b in
    record {
      unknowns = omega (arith, x.unknowns, y.unknowns);
      classifiers = omega (arith, x.classifiers, y.classifiers);
    }
few (a_function a b) = let x = few a in let y = few b in
    record {
      unknowns = omega (arith, x.unknowns, y.unknowns);
      classifiers = omega (arith, x.classifiers, y.classifiers);
    }
few (code_seen lt a) = let x = few a in
    record { unknowns = omega (arith, x.unknowns); classifiers = omega (arith, x.classifiers) }
few (code_next e a) = let x = few a in
    record { unknowns = omega (arith, x.unknowns); classifiers = omega (arith, x.classifiers) }
few (a_closed a) = let x = few a in
    record { unknowns = omega (arith, x.unknowns); classifiers = omega (arith, x.classifiers) }
few h = record { unknowns = omega arith; classifiers = omega arith }

pub root-scheme : (names : List TopLevel) (e : Expression) (facts : List NodeFacts) → IsSource e
    → (h : AreNodesOfPart (record { names = names; place = let_place; term = e }) facts) (r : NewNumbers) (k l : ℕ)
    → IsNumbered 0 0 (apply (renaming r) (h.solution.ty 0)) k l
    → IsSchemeOf names e (record { unknowns = k; classifiers = l; type = apply (renaming r) (h.solution.ty 0) })
root-scheme names e facts source h r k l i =
    let s = h.solution in
    let n = item_unknowns h.schemes e in
    let m = item_classifiers h.schemes e in
    let w = h.solves.within.types 0 (omega arith) in
    let f = few i in
    let z = h.solves.small 0 (omega arith) in
    let y = nodes-renamed r (s.ty 0) in
    IsSchemeOf-renumbered names e (record { unknowns = n; classifiers = m; type = s.ty 0 })
    (record { unknowns = k; classifiers = l; type = apply (renaming r) (s.ty 0) })
    (most_general-scheme names h.schemes h.principal.of e source s h.solves.general h.solves.within h.fresh)
    (record {
      in_order = i;
      instances = λ b. (earlier r n m b, value-earlier r n m b (s.ty 0) w);
      back = λ d. (after d (renaming r), sym (value_apply d (renaming r) (s.ty 0)));
      unknowns = omega (arith, f.unknowns, y, z);
      classifiers = omega (arith, f.classifiers, y, z);
    })
