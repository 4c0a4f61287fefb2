-- What an assignment makes of types, another makes of them with new numbers.
use Rattle.std.proofs.Common.{◌≡◌, ℕ, zero, suc, Bool, true, false, cond, nat_eq, List, [], ◌∷◌, ◌++◌, map, Option}
use Rattle.std.proofs.Common.{Some, None, refl, ap, sym, ◌∙◌, append_assoc}
use Rattle.std.specs.Prelude.{option_map, option_to_list}
use Rattle.std.proofs.lemmas.Bool.{eqb-true}
use Rattle.mw_types.specs.Types.{TypeExpression, int_ty, bool_ty, unknown, pair_ty, function_ty, code_ty, closed_ty}
use Rattle.mw_types.specs.Types.{Assignment, value, apply}
use Rattle.mw_infer.specs.Nodes.{NodeFacts}
use Rattle.mw_agree.specs.Telling.{renaming, with_numbers}
use Rattle.mw_agree.proofs.Numbers.{number_by, numbers_by}
use Rattle.mw_written.specs.Readings.{Reading, a_type, a_classifier, type_value, classifier_value}
use Rattle.mw_written.specs.Readings.{reading_value}
use Rattle.mw_general.specs.Telling.{fact_readings}
use Rattle.mw_made.proofs.Lists.{same_list}

-- the old number of a new one
old : List ℕ → ℕ → ℕ
old [] k = k
old (x ∷ xs) zero = x
old (x ∷ xs) (suc k) = old xs k

old_behind : (x u k : ℕ) (xs : List ℕ) (b : Bool) → nat_eq x u ≡ b → old xs k ≡ u
    → old (x ∷ xs) (cond b 0 (suc k)) ≡ u
unfolding old
old_behind x u k xs true e h = eqb-true x u e
old_behind x u k xs false e h = h

old_number : (xs : List ℕ) (u : ℕ) → old xs (number_by xs u) ≡ u
unfolding old
old_number [] u = refl
old_number (x ∷ xs) u = old_behind x u (number_by xs u) xs (nat_eq x u) refl (old_number xs u)

module _ (us cs : List ℕ) (b : Assignment) where
  -- the assignment by old numbers
  pub earlier : Assignment
  earlier = record { ty = λ k. b.ty (old us k); classifier = λ k. b.classifier (old cs k) }

  value_earlier : (t : TypeExpression) → value earlier (apply (renaming (numbers_by us cs)) t) ≡ value b t
  unfolding earlier
  value_earlier int_ty = refl
  value_earlier bool_ty = refl
  value_earlier (unknown u) = ap b.ty (old_number us u)
  value_earlier (pair_ty s t) = rw (value_earlier s, value_earlier t) refl
  value_earlier (function_ty s t) = rw (value_earlier s, value_earlier t) refl
  value_earlier (code_ty c t) = rw (old_number cs c, value_earlier t) refl
  value_earlier (closed_ty t) = rw (value_earlier t) refl

  classifier_earlier : (c : ℕ) → earlier.classifier (number_by cs c) ≡ b.classifier c
  unfolding earlier
  classifier_earlier c = ap b.classifier (old_number cs c)

  -- and so of readings
  types_earlier : (ts : List TypeExpression) (rs qs : List Reading)
      → map (reading_value earlier) rs ≡ map (reading_value b) qs
      → map (reading_value earlier) (map (λ t. a_type t) (map (apply (renaming (numbers_by us cs))) ts) ++ rs)
      ≡ map (reading_value b) (map (λ t. a_type t) ts ++ qs)
  types_earlier [] rs qs h = h
  types_earlier (t ∷ ts) rs qs h =
      same_list _ _ _ _ (ap (λ z. type_value z) (value_earlier t)) (types_earlier ts rs qs h)

  end_earlier : (c : Option ℕ) (rs qs : List Reading) → map (reading_value earlier) rs ≡ map (reading_value b) qs
      → map (reading_value earlier)
      (map (λ k. a_classifier k) (option_to_list (option_map (numbers_by us cs).classifier c)) ++ rs)
      ≡ map (reading_value b) (map (λ k. a_classifier k) (option_to_list c) ++ qs)
  end_earlier None rs qs h = h
  end_earlier (Some c) rs qs h =
      same_list _ _ _ _ (ap (λ z. classifier_value z) (classifier_earlier c)) h

  pub facts_earlier : (facts : List NodeFacts)
      → map (reading_value earlier) (fact_readings (map (with_numbers (numbers_by us cs)) facts))
      ≡ map (reading_value b) (fact_readings facts)
  facts_earlier [] = refl
  facts_earlier (x ∷ facts) =
      let r = numbers_by us cs in
      let rest = fact_readings (map (with_numbers r) facts) in
      let types = map (λ t. a_type t) (map (apply (renaming r)) x.types) in
      let ends = map (λ k. a_classifier k) (option_to_list (option_map r.classifier x.classifier)) in
      let others = fact_readings facts in
      let old_types = map (λ t. a_type t) x.types in
      let old_ends = map (λ k. a_classifier k) (option_to_list x.classifier) in
      ap (λ rs. map (reading_value earlier) rs) (append_assoc types ends rest)
      ∙ types_earlier x.types (ends ++ rest) (old_ends ++ others)
      (end_earlier x.classifier rest others (facts_earlier facts))
      ∙ ap (λ rs. map (reading_value b) rs) (sym (append_assoc old_types old_ends others))
