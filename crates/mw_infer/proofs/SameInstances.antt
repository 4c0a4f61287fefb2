-- A type with its numbers in order has the instances that it had.
use Rattle.std.proofs.Common.{◌≡◌, ◌≢◌, ℕ, zero, suc, ◌≤◌, List, [], ◌∷◌, refl, ap, sym, ◌∙◌, arith}
use Rattle.mw_term.specs.Terms.{Expression}
use Rattle.mw_term.specs.Typing.{TopLevel}
use Rattle.mw_types.specs.Types.{TypeExpression, int_ty, bool_ty, unknown, pair_ty, function_ty, code_ty, closed_ty}
use Rattle.mw_types.specs.Types.{Within, Assignment, value, nodes}
use Rattle.mw_infer.specs.Schemes.{Scheme}
use Rattle.mw_types.specs.Numbered.{IsNumbered, an_int, a_bool, seen, next, a_pair, a_function, code_seen, code_next}
use Rattle.mw_types.specs.Numbered.{a_closed}
use Rattle.mw_term.specs.FlatTypes.{formed_type}
use Rattle.mw_infer.specs.Inferring.{IsSchemeOf}
use Rattle.mw_infer.specs.Numbering.{none, number_in, IsOrder, renumbered, AreSeen, Renumbers, IsRenumbering}
use Rattle.mw_infer.specs.declared.renumber.Numbering.{Numbering}
use Rattle.mw_infer.proofs.Within.{Within-more}
use Rattle.mw_types.proofs.Lists.{Is, same, other, is}

-- the old number of a new one
old_in : List ℕ → ℕ → ℕ
old_in [] v = 0
old_in (x ∷ xs) v = elim (is x v) [ same e ↦ 0 | other n ↦ suc (old_in xs v) ]

old_in-step : (x : ℕ) (xs : List ℕ) (v : ℕ) (d : Is x v) → ((x ≢ v) → number_in xs (old_in xs v) ≡ v)
    → number_in (x ∷ xs) (elim d as (λ _. ℕ) [ same e ↦ 0 | other n ↦ suc (old_in xs v) ]) ≡ v
old_in-step x xs v (same f) h = f
old_in-step x xs v (other k) h = h k

old_in-number : (xs : List ℕ) (u v : ℕ) → number_in xs u ≡ v → v ≢ none → number_in xs (old_in xs v) ≡ v
unfolding old_in
old_in-number [] u v e n = absurd (n (sym e))
old_in-number (x ∷ xs) zero v e n = old_in-step x xs v (is x v) (λ k. absurd (k e))
old_in-number (x ∷ xs) (suc u) v e n = old_in-step x xs v (is x v) (λ k. old_in-number xs u v e n)

-- an instance of a type with new numbers is one of the type
back_instance : (p q : List ℕ) (d : Assignment) (t : TypeExpression)
    → value (record { ty = λ u. d.ty (number_in p u); classifier = λ c. d.classifier (number_in q c) }) t
    ≡ value d (renumbered p q t)
back_instance p q d int_ty = refl
back_instance p q d bool_ty = refl
back_instance p q d (unknown u) = refl
back_instance p q d (pair_ty s t) = rw (back_instance p q d s, back_instance p q d t) refl
back_instance p q d (function_ty s t) = rw (back_instance p q d s, back_instance p q d t) refl
back_instance p q d (code_ty c t) = rw (back_instance p q d t) refl
back_instance p q d (closed_ty t) = rw (back_instance p q d t) refl

-- and the other way round
old_number : (x : Numbering) → IsOrder x → (u : ℕ) → number_in x.places.items u ≢ none
    → old_in x.places.items (number_in x.places.items u) ≡ u
old_number x h u n =
    sym (h.one u (old_in x.places.items (number_in x.places.items u)) n
    (sym (old_in-number x.places.items u (number_in x.places.items u) refl n)))

new_instance : (k l : Numbering) → IsOrder k → IsOrder l → (b : Assignment) (t : TypeExpression)
    → AreSeen k.places.items l.places.items t
    → value (record {
      ty = λ v. b.ty (old_in k.places.items v);
      classifier = λ v. b.classifier (old_in l.places.items v);
    }) (renumbered k.places.items l.places.items t) ≡ value b t
new_instance k l g h b int_ty s = refl
new_instance k l g h b bool_ty s = refl
new_instance k l g h b (unknown u) s = ap b.ty (old_number k g u s)
new_instance k l g h b (pair_ty t r) s = rw (new_instance k l g h b t s.0, new_instance k l g h b r s.1) refl
new_instance k l g h b (function_ty t r) s = rw (new_instance k l g h b t s.0, new_instance k l g h b r s.1) refl
new_instance k l g h b (code_ty c t) s = rw (old_number l h c s.0, new_instance k l g h b t s.1) refl
new_instance k l g h b (closed_ty t) s = rw (new_instance k l g h b t s) refl

pub renumbering : (p q k l : Numbering) (t r : TypeExpression) → Renumbers p q k l t r → p.count ≡ 0 → q.count ≡ 0
    → nodes t ≤ 10000 → IsRenumbering t (record { unknowns = k.count; classifiers = l.count; type = r })
renumbering p q k l t r h e f small = record {
  in_order = rw (e, f) at h.numbered;
  instances = λ b. (
    record { ty = λ v. b.ty (old_in k.places.items v); classifier = λ v. b.classifier (old_in l.places.items v) },
    rw h.is (new_instance k l h.unknown_order h.classifier_order b t h.seen),
  );
  back = λ d. (
    record {
      ty = λ u. d.ty (number_in k.places.items u);
      classifier = λ c.
          d.classifier (number_in l.places.items c);
    },
    rw h.is (back_instance k.places.items l.places.items d t),
  );
  unknowns = omega (arith, h.unknown_count);
  classifiers = omega (arith, h.classifier_count);
}

-- the numbers after a type are those that it names
pub record Reaches (n m k l : ℕ) (t : TypeExpression) : Type 0 where
  pub unknowns : n ≤ k
  pub classifiers : m ≤ l
  pub within : Within k l t

pub reaches : {n m k l : ℕ} {t : TypeExpression} → IsNumbered n m t k l → Reaches n m k l t
reaches an_int = record { unknowns = omega arith; classifiers = omega arith; within = tt }
reaches a_bool = record { unknowns = omega arith; classifiers = omega arith; within = tt }
reaches (seen lt) = record { unknowns = omega arith; classifiers = omega arith; within = lt }
reaches (next e) = record { unknowns = omega arith; classifiers = omega arith; within = omega arith }
reaches (a_pair {s = s} a b) =
    let x = reaches a in let y = reaches b in
    record {
      unknowns = omega (arith, x.unknowns, y.unknowns);
      classifiers =
          omega (arith, x.classifiers, y.classifiers);
      within =
          (Within-more y.unknowns y.classifiers s x.within, y.within);
    }
reaches (a_function {s = s} a b) =
    let x = reaches a in let y = reaches b in
    record {
      unknowns = omega (arith, x.unknowns, y.unknowns);
      classifiers =
          omega (arith, x.classifiers, y.classifiers);
      within =
          (Within-more y.unknowns y.classifiers s x.within, y.within);
    }
reaches (code_seen lt a) = let x = reaches a in
    record { unknowns = x.unknowns; classifiers = x.classifiers; within = (omega (arith, x.classifiers), x.within) }
reaches (code_next e a) = let x = reaches a in
    record {
      unknowns = x.unknowns;
      classifiers = omega (arith, x.classifiers);
      within =
          (omega (arith, x.classifiers), x.within);
    }
reaches (a_closed a) = let x = reaches a in
    record { unknowns = x.unknowns; classifiers = x.classifiers; within = x.within }

-- so a scheme with its numbers in order is a scheme of the same definition
pub IsSchemeOf-renumbered : (tops : List TopLevel) (e : Expression) (s r : Scheme) → IsSchemeOf tops e s
    → IsRenumbering s.type r → IsSchemeOf tops e r
IsSchemeOf-renumbered tops e s r h k = record {
  within = (reaches k.in_order).within;
  types = λ t. (
    (λ d. let i = (h.types t).0 d in let j = k.instances i.by in
        record { formed = i.formed; by = j.0; gives = j.1 ∙ i.gives }),
    (λ i. let j = k.back i.by in (h.types t).1 (record { formed = i.formed; by = j.0; gives = j.1 ∙ i.gives })),
  );
  formed = λ b.
      let j = k.back b in
      let f = h.formed j.0 in
      let d = k.instances f.0 in
      (d.0, d.1 ∙ f.1 ∙ ap (λ t. formed_type t) j.1);
}
