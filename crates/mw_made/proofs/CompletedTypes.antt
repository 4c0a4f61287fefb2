-- The types that the written lines name are those that reading completes.
use Rattle.std.proofs.Common.{◌≡◌, ℕ, Bool, true, false, nat_eq, List, [], ◌∷◌, ◌++◌, map, length, Option, Some, None}
use Rattle.std.proofs.Common.{refl, ap, sym, ◌∙◌, subst, append_assoc, if◌then◌else◌}
use Rattle.std.specs.Prelude.{option_map, option_to_list}
use Rattle.std.proofs.lemmas.Option.{slice_get_within}
use Rattle.mw_types.specs.Types.{TypeExpression, int_ty, bool_ty, unknown, pair_ty, function_ty, code_ty, closed_ty}
use Rattle.mw_types.specs.Types.{apply}
use Rattle.mw_lines.specs.TypeLines.{TypeLine, int_line, bool_line, unknown_line, pair_line, arrow_line, code_line}
use Rattle.mw_lines.specs.TypeLines.{closed_line, HoldsNoCode, NamesPart, NamesType, names_int, names_bool}
use Rattle.mw_lines.specs.TypeLines.{names_unknown, names_pair, names_arrow, names_code, names_closed}
use Rattle.mw_lines.specs.Naming.{types_named}
use Rattle.mw_lines.specs.Deciding.{same_line, is_among}
use Rattle.mw_lines.proofs.NamedTypes.{one_list}
use Rattle.mw_infer.specs.Nodes.{NodeFacts}
use Rattle.mw_section.specs.Writing.{Writing, place_of, with_line, line_written, type_written, classifier_written}
use Rattle.mw_section.specs.Writers.{unknown_written, IsWritten}
use Rattle.mw_section.specs.WritingLaws.{IsContinued, IsFormed, AreTyped, all_written}
use Rattle.mw_section.proofs.Places.{IsAt}
use Rattle.mw_section.proofs.LaterWrites.{IsPlaced, continued_more, continued_type, continued_line}
use Rattle.mw_section.proofs.RepeatedWrites.{placed_written, written_here, written_later}
use Rattle.mw_section.proofs.NamedTypes.{typed}
use Rattle.mw_agree.specs.Telling.{AllFormed, NodesAreFormed, renaming, with_numbers}
use Rattle.mw_agree.proofs.Numbers.{number_by}
use Rattle.mw_agree.proofs.NumberPlaces.{named-by_place}
use Rattle.mw_agree.proofs.Unifiers.{no_code-renamed}
use Rattle.mw_written.specs.Readings.{Reading, a_type, a_classifier}
use Rattle.mw_written.specs.Order.{with_new, with_type, with_readings, with_line as with_new_line}
use Rattle.mw_written.proofs.NewLines.{new_lines}
use Rattle.mw_general.specs.Telling.{fact_readings}
use Rattle.mw_made.specs.Making.{line_ended, node_written, nodes_written}
use Rattle.mw_made.proofs.WrittenNodes.{continued_all, continued_end, continued_nodes, number_stays}
use Rattle.mw_made.proofs.PartTypeLines.{typed_all, typed_end}
use Rattle.mw_made.proofs.ReadingOrder.{numbers_of, number_is, number_then}

-- a number stays where more is written, and so does what a written type is with new numbers
one_number : (u k : ℕ) (us vs : List ℕ) → (more : List ℕ) × (vs ≡ us ++ more) → IsAt nat_eq u us k
    → number_by us u ≡ number_by vs u
one_number u k us vs m h = number_is u k us h ∙ sym (number_is u k vs (number_stays u k us vs m h))

still_numbered : (w v : Writing) → IsContinued w v → (t : TypeExpression) (p : ℕ) → IsPlaced w t p
    → apply (renaming (numbers_of w)) t ≡ apply (renaming (numbers_of v)) t
still_numbered w v c int_ty p h = refl
still_numbered w v c bool_ty p h = refl
still_numbered w v c (unknown u) p h = ap unknown (one_number u h.0 w.unknowns v.unknowns c.unknowns h.1)
still_numbered w v c (pair_ty s t) p h = rw (still_numbered w v c s h.0 h.2, still_numbered w v c t h.1 h.3) refl
still_numbered w v c (function_ty s t) p h = rw (still_numbered w v c s h.0 h.2, still_numbered w v c t h.1 h.3) refl
still_numbered w v c (code_ty k t) p h = rw (
  one_number k h.0 w.classifiers v.classifiers c.classifiers h.2,
  still_numbered w v c t h.1 h.3,
) refl
still_numbered w v c (closed_ty t) p h = rw (still_numbered w v c t h.0 h.1) refl

-- a line comes after others just as it does among lines that name types
line_behind : (b c : Bool) (k l : TypeLine) (ls ms : List TypeLine) → ms ≡ (if c then ls else ls ++ l ∷ [])
    → (if b then k ∷ ls else k ∷ ms) ≡ (if (if b then true else c) then k ∷ ls else k ∷ ls ++ l ∷ [])
line_behind true c k l ls ms e = refl
line_behind false true k l ls ms e = ap (λ z. k ∷ z) e
line_behind false false k l ls ms e = ap (λ z. k ∷ z) e

with_line_same : (l : TypeLine) (ls : List TypeLine) → with_line l ls ≡ with_new_line ls l
with_line_same l [] = refl
with_line_same l (k ∷ ls) = line_behind (same_line k l) (is_among l ls) k l ls _ (with_line_same l ls)

-- a line that is written names a new type where it is new
line_new : (l : TypeLine) (t : TypeExpression) (w : Writing) → AreTyped w
    → NamesType (types_named w.lines) (length (types_named w.lines)) l t
    → types_named (line_written l w).writing.lines ≡ with_new (types_named w.lines) t
line_new l t w y n =
    ap (λ ls. types_named ls) (with_line_same l w.lines)
    ∙ sym (one_list (with_new_line w.lines l) (with_new (types_named w.lines) t)
    (new_lines w.lines (types_named w.lines) y l t n))

formed : (t : TypeExpression) → HoldsNoCode t → IsFormed t
formed int_ty h = tt
formed bool_ty h = tt
formed (unknown u) h = tt
formed (pair_ty s t) h = (formed s h.0, formed t h.1)
formed (function_ty s t) h = (formed s h.0, formed t h.1)
formed (code_ty c t) h = absurd h
formed (closed_ty t) h = absurd h

module _ (v : Writing) where
  -- a type with new numbers
  abbrev made : TypeExpression → TypeExpression
  made t = apply (renaming (numbers_of v)) t

  part_named : (w : Writing) → IsContinued w v → (t : TypeExpression) (p : ℕ) → AreTyped w → IsWritten t p w
      → NamesPart (types_named w.lines) (length (types_named w.lines)) p (made t)
  part_named w c t p y h =
      let e = named-by_place t p w y h ∙ ap (λ z. Some z) (still_numbered w v c t p (placed_written t p w h)) in
      record { earlier = slice_get_within (types_named w.lines) p (made t) e; named = e }

  type_completed : (t : TypeExpression) (w : Writing) → IsFormed t → AreTyped w
      → IsContinued (type_written t w).writing v
      → types_named (type_written t w).writing.lines ≡ with_type (types_named w.lines) (made t)
  type_completed int_ty w f y h = line_new int_line int_ty w y names_int
  type_completed bool_ty w f y h = line_new bool_line bool_ty w y names_bool
  type_completed (unknown u) w f y h =
      let e = number_then u w.unknowns v.unknowns h.unknowns in
      line_new (unknown_line (place_of u w.unknowns)) (unknown (number_by v.unknowns u)) (unknown_written u w).writing y
      (subst (λ k. NamesType (types_named w.lines) (length (types_named w.lines)) (unknown_line (place_of u w.unknowns))
      (unknown k)) (sym e) names_unknown)
  type_completed (pair_ty s t) w f y h =
      let a = type_written s w in
      let b = type_written t a.writing in
      let later : IsContinued a.writing b.writing = continued_type t a.writing in
      let g : IsContinued b.writing v = continued_more b.writing _ v (continued_line _ b.writing) h in
      let x = typed s w f.0 y in
      let z = typed t a.writing f.1 x in
      let first = type_completed s w f.0 y (continued_more a.writing b.writing v later g) in
      let second = type_completed t a.writing f.1 x g in
      line_new (pair_line a.place b.place) (pair_ty (made s) (made t)) b.writing z
      (names_pair
      (part_named b.writing g s a.place z (written_later s a.place a.writing b.writing (written_here s w) later))
      (part_named b.writing g t b.place z (written_here t a.writing)))
      ∙ ap (λ ts. with_new ts (pair_ty (made s) (made t))) (second ∙ ap (λ ts. with_type ts (made t)) first)
  type_completed (function_ty s t) w f y h =
      let a = type_written s w in
      let b = type_written t a.writing in
      let later : IsContinued a.writing b.writing = continued_type t a.writing in
      let g : IsContinued b.writing v = continued_more b.writing _ v (continued_line _ b.writing) h in
      let x = typed s w f.0 y in
      let z = typed t a.writing f.1 x in
      let first = type_completed s w f.0 y (continued_more a.writing b.writing v later g) in
      let second = type_completed t a.writing f.1 x g in
      line_new (arrow_line a.place b.place) (function_ty (made s) (made t)) b.writing z
      (names_arrow
      (part_named b.writing g s a.place z (written_later s a.place a.writing b.writing (written_here s w) later))
      (part_named b.writing g t b.place z (written_here t a.writing)))
      ∙ ap (λ ts. with_new ts (function_ty (made s) (made t))) (second ∙ ap (λ ts. with_type ts (made t)) first)
  type_completed (code_ty c t) w f y h =
      let d = classifier_written c w in
      let a = type_written t d.writing in
      let g : IsContinued a.writing v = continued_more a.writing _ v (continued_line _ a.writing) h in
      let from : IsContinued d.writing v = continued_more d.writing a.writing v (continued_type t d.writing) g in
      let whole = formed t f in
      let z = typed t d.writing whole y in
      let k = number_by v.classifiers c in
      let e = number_then c w.classifiers v.classifiers from.classifiers in
      let ts = types_named a.writing.lines in
      line_new (code_line d.place a.place) (code_ty k (made t)) a.writing z
      (subst (λ i. NamesType ts (length ts) (code_line d.place a.place) (code_ty i (made t))) (sym e)
      (names_code (part_named a.writing g t a.place z (written_here t d.writing))
      (no_code-renamed (numbers_of v) t f)))
      ∙ ap (λ us. with_new us (code_ty k (made t))) (type_completed t d.writing whole y g)
  type_completed (closed_ty t) w f y h =
      let a = type_written t w in
      let g : IsContinued a.writing v = continued_more a.writing _ v (continued_line _ a.writing) h in
      let whole = formed t f in
      let z = typed t w whole y in
      line_new (closed_line a.place) (closed_ty (made t)) a.writing z
      (names_closed (part_named a.writing g t a.place z (written_here t w)) (no_code-renamed (numbers_of v) t f))
      ∙ ap (λ us. with_new us (closed_ty (made t))) (type_completed t w whole y g)

  -- and so with readings, before others
  all_completed : (ts : List TypeExpression) (w : Writing) (rs : List Reading) → AllFormed ts → AreTyped w
      → IsContinued (all_written ts w).writing v
      → with_readings (types_named w.lines) (map (λ t. a_type t) (map (apply (renaming (numbers_of v))) ts) ++ rs)
      ≡ with_readings (types_named (all_written ts w).writing.lines) rs
  all_completed [] w rs f y h = refl
  all_completed (t ∷ ts) w rs f y h =
      let a = (type_written t w).writing in
      let rest = map (λ t. a_type t) (map (apply (renaming (numbers_of v))) ts) ++ rs in
      ap (λ us. with_readings us rest)
      (sym (type_completed t w f.0 y (continued_more a _ v (continued_all ts a) h)))
      ∙ all_completed ts a rs f.1 (typed t w f.0 y) h

  end_completed : (c : Option ℕ) (ps : List ℕ) (w : Writing) (rs : List Reading)
      → with_readings (types_named w.lines)
      (map (λ k. a_classifier k) (option_to_list (option_map (numbers_of v).classifier c)) ++ rs)
      ≡ with_readings (types_named (line_ended c ps w).writing.lines) rs
  end_completed None ps w rs = refl
  end_completed (Some c) ps w rs = refl

  pub facts_completed : (facts : List NodeFacts) (w : Writing) → NodesAreFormed facts → AreTyped w
      → IsContinued (nodes_written facts w).writing v
      → with_readings (types_named w.lines) (fact_readings (map (with_numbers (numbers_of v)) facts))
      ≡ types_named (nodes_written facts w).writing.lines
  facts_completed [] w f y h = refl
  facts_completed (x ∷ facts) w f y h =
      let a = all_written x.types w in
      let b = (node_written x w).writing in
      let rest = fact_readings (map (with_numbers (numbers_of v)) facts) in
      let types = map (λ t. a_type t) (map (apply (renaming (numbers_of v))) x.types) in
      let ends = map (λ k. a_classifier k) (option_to_list (option_map (numbers_of v).classifier x.classifier)) in
      let g : IsContinued b v = continued_more b _ v (continued_nodes facts b) h in
      let z = typed_all x.types w f.0 y in
      ap (λ rs. with_readings (types_named w.lines) rs) (append_assoc types ends rest)
      ∙ all_completed x.types w (ends ++ rest) f.0 y
      (continued_more a.writing b v (continued_end x.classifier a.places a.writing) g)
      ∙ end_completed x.classifier a.places a.writing rest
      ∙ facts_completed facts b f.1 (typed_end x.classifier a.places a.writing z) h
