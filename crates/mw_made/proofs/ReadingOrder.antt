-- The numbers of what is written are those of reading order.
use Rattle.std.proofs.Common.{◌≡◌, ℕ, suc, ◌<◌, nat_eq, List, [], ◌∷◌, ◌++◌, map, length, Option, Some, None, ap}
use Rattle.std.proofs.Common.{sym, ◌∙◌, subst, arith, append_assoc, length-append}
use Rattle.std.specs.Prelude.{option_map, option_to_list}
use Rattle.mw_types.specs.Types.{TypeExpression, int_ty, bool_ty, unknown, pair_ty, function_ty, code_ty, closed_ty}
use Rattle.mw_types.specs.Types.{apply}
use Rattle.mw_types.specs.Numbered.{IsNumbered, an_int, a_bool, seen, next, a_pair, a_function, code_seen, code_next}
use Rattle.mw_types.specs.Numbered.{a_closed}
use Rattle.mw_infer.specs.Nodes.{NodeFacts}
use Rattle.mw_section.specs.Writing.{Writing, place_of, with_number, type_written, classifier_written}
use Rattle.mw_section.specs.WritingLaws.{IsContinued, all_written}
use Rattle.mw_section.proofs.Places.{IsAt, Met, is_known, is_new, met, place_of_is, with_number_is}
use Rattle.mw_section.proofs.LaterWrites.{continued_more, continued_type, continued_line, number_at}
use Rattle.mw_agree.specs.Telling.{NewNumbers, renaming, with_numbers}
use Rattle.mw_agree.proofs.Numbers.{number_by, numbers_by}
use Rattle.mw_agree.proofs.NumberPlaces.{place-number}
use Rattle.mw_written.specs.Readings.{Reading, a_type, a_classifier}
use Rattle.mw_written.specs.Order.{AreNumbered, all_read, type_read, classifier_seen, classifier_next}
use Rattle.mw_general.specs.Telling.{fact_readings}
use Rattle.mw_made.specs.Making.{line_ended, node_written, nodes_written}
use Rattle.mw_made.proofs.WrittenNodes.{continued_all, continued_end, continued_nodes, number_stays}

-- the new numbers by what is written
abbrev pub numbers_of : Writing → NewNumbers
numbers_of v = numbers_by v.unknowns v.classifiers

-- what is at its place has it as its number
pub number_is : (u k : ℕ) (us : List ℕ) → IsAt nat_eq u us k → number_by us u ≡ k
number_is u k us h = sym (place-number us u k h) ∙ place_of_is u us ∙ h.here

met_number : (u : ℕ) (us : List ℕ) → Met u (place_of u us) us (with_number u us)
met_number u us = rw (place_of_is u us, with_number_is u us) (met nat_eq u us)

-- the number that one has once more was written
pub number_then : (u : ℕ) (us vs : List ℕ) → (more : List ℕ) × (vs ≡ with_number u us ++ more)
    → number_by vs u ≡ place_of u us
number_then u us vs h = number_is u (place_of u us) vs
    (number_stays u (place_of u us) (with_number u us) vs h (number_at u us))

longer : (us vs : List ℕ) (u : ℕ) → vs ≡ us ++ u ∷ [] → length vs ≡ suc (length us)
longer us vs u e = ap (λ z. length z) e ∙ length-append us (u ∷ []) ∙ omega arith

unknown_numbered : (u k p m : ℕ) (us vs : List ℕ) → k ≡ p → Met u p us vs
    → IsNumbered (length us) m (unknown k) (length vs) m
unknown_numbered u k p m us vs e (is_known h f) =
    let within : k < length us = omega arith in
    subst (λ z. IsNumbered (length us) m (unknown k) (length z) m) (sym f) (seen within)
unknown_numbered u k p m us vs e (is_new h f) =
    subst (λ n. IsNumbered (length us) m (unknown k) n m) (sym (longer us vs u f)) (next (e ∙ h))

code_numbered : (c k p n : ℕ) (cs ds : List ℕ) (t : TypeExpression) (i j : ℕ) → k ≡ p → Met c p cs ds
    → IsNumbered n (length ds) t i j → IsNumbered n (length cs) (code_ty k t) i j
code_numbered c k p n cs ds t i j e (is_known h f) y =
    let within : k < length cs = omega arith in
    code_seen within (subst (λ z. IsNumbered n (length z) t i j) f y)
code_numbered c k p n cs ds t i j e (is_new h f) y =
    code_next (e ∙ h) (subst (λ m. IsNumbered n m t i j) (longer cs ds c f) y)

classifier_numbered : (c k p n : ℕ) (cs ds : List ℕ) (rs : List Reading) → k ≡ p → Met c p cs ds
    → AreNumbered n (length ds) rs → AreNumbered n (length cs) (a_classifier k ∷ rs)
classifier_numbered c k p n cs ds rs e (is_known h f) y =
    let within : k < length cs = omega arith in
    classifier_seen within (subst (λ z. AreNumbered n (length z) rs) f y)
classifier_numbered c k p n cs ds rs e (is_new h f) y =
    classifier_next (e ∙ h) (subst (λ m. AreNumbered n m rs) (longer cs ds c f) y)

module _ (v : Writing) where
  type_numbered : (t : TypeExpression) (w : Writing) → IsContinued (type_written t w).writing v
      → IsNumbered (length w.unknowns) (length w.classifiers) (apply (renaming (numbers_of v)) t)
      (length (type_written t w).writing.unknowns) (length (type_written t w).writing.classifiers)
  type_numbered int_ty w h = an_int
  type_numbered bool_ty w h = a_bool
  type_numbered (unknown u) w h = unknown_numbered u _ (place_of u w.unknowns) (length w.classifiers) w.unknowns _
      (number_then u w.unknowns v.unknowns h.unknowns) (met_number u w.unknowns)
  type_numbered (pair_ty s t) w h =
      let a = (type_written s w).writing in
      let b = (type_written t a).writing in
      let g : IsContinued b v = continued_more b _ v (continued_line _ b) h in
      a_pair (type_numbered s w (continued_more a b v (continued_type t a) g)) (type_numbered t a g)
  type_numbered (function_ty s t) w h =
      let a = (type_written s w).writing in
      let b = (type_written t a).writing in
      let g : IsContinued b v = continued_more b _ v (continued_line _ b) h in
      a_function (type_numbered s w (continued_more a b v (continued_type t a) g)) (type_numbered t a g)
  type_numbered (code_ty c t) w h =
      let a = (classifier_written c w).writing in
      let b = (type_written t a).writing in
      let g : IsContinued b v = continued_more b _ v (continued_line _ b) h in
      let f : IsContinued a v = continued_more a b v (continued_type t a) g in
      code_numbered c _ (place_of c w.classifiers) _ w.classifiers a.classifiers _ _ _
      (number_then c w.classifiers v.classifiers f.classifiers) (met_number c w.classifiers) (type_numbered t a g)
  type_numbered (closed_ty t) w h =
      let a = (type_written t w).writing in
      a_closed (type_numbered t w (continued_more a _ v (continued_line _ a) h))

  -- and so those of the readings, before others that go on from there
  all_numbered : (ts : List TypeExpression) (w : Writing) (rs : List Reading)
      → IsContinued (all_written ts w).writing v
      → AreNumbered (length (all_written ts w).writing.unknowns) (length (all_written ts w).writing.classifiers) rs
      → AreNumbered (length w.unknowns) (length w.classifiers)
      (map (λ t. a_type t) (map (apply (renaming (numbers_of v))) ts) ++ rs)
  all_numbered [] w rs h y = y
  all_numbered (t ∷ ts) w rs h y =
      let a = (type_written t w).writing in
      type_read (type_numbered t w (continued_more a _ v (continued_all ts a) h)) (all_numbered ts a rs h y)

  end_numbered : (c : Option ℕ) (ps : List ℕ) (w : Writing) (rs : List Reading)
      → IsContinued (line_ended c ps w).writing v
      → AreNumbered (length (line_ended c ps w).writing.unknowns) (length (line_ended c ps w).writing.classifiers) rs
      → AreNumbered (length w.unknowns) (length w.classifiers)
      (map (λ k. a_classifier k) (option_to_list (option_map (numbers_of v).classifier c)) ++ rs)
  end_numbered None ps w rs h y = y
  end_numbered (Some c) ps w rs h y =
      classifier_numbered c _ (place_of c w.classifiers) _ w.classifiers (with_number c w.classifiers) rs
      (number_then c w.classifiers v.classifiers h.classifiers) (met_number c w.classifiers) y

  pub facts_numbered : (facts : List NodeFacts) (w : Writing) → IsContinued (nodes_written facts w).writing v
      → AreNumbered (length w.unknowns) (length w.classifiers)
      (fact_readings (map (with_numbers (numbers_of v)) facts))
  facts_numbered [] w h = all_read
  facts_numbered (x ∷ facts) w h =
      let a = all_written x.types w in
      let b = (node_written x w).writing in
      let rest = fact_readings (map (with_numbers (numbers_of v)) facts) in
      let types = map (λ t. a_type t) (map (apply (renaming (numbers_of v))) x.types) in
      let ends = map (λ k. a_classifier k) (option_to_list (option_map (numbers_of v).classifier x.classifier)) in
      let g : IsContinued b v = continued_more b _ v (continued_nodes facts b) h in
      subst (λ rs. AreNumbered (length w.unknowns) (length w.classifiers) rs) (sym (append_assoc types ends rest))
      (all_numbered x.types w (ends ++ rest)
      (continued_more a.writing b v (continued_end x.classifier a.places a.writing) g)
      (end_numbered x.classifier a.places a.writing rest g (facts_numbered facts b h)))
