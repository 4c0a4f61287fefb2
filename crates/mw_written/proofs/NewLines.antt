-- A line more, as lines are written: it is new just where its type is.
use Rattle.std.proofs.Common.{◌≡◌, Bool, true, false, List, [], ◌∷◌, ◌++◌, length, get_or, Some, refl, sym, ap, ◌∙◌}
use Rattle.std.proofs.Common.{subst, arith, if◌then◌else◌, true≢false}
use Rattle.std.proofs.lemmas.Option.{slice_get_within, slice_get-get_or}
use Rattle.mw_types.specs.Types.{TypeExpression, int_ty}
use Rattle.mw_lines.specs.TypeLines.{TypeLine, AreTypeLines, NamesType}
use Rattle.mw_lines.specs.Deciding.{is_among}
use Rattle.mw_lines.proofs.NamedTypes.{among, place_among, one_type, parts_of, pushed}
use Rattle.mw_lines.proofs.OneLine.{line_at, has_one_line}
use Rattle.mw_written.specs.Order.{is_type_among, with_new, with_line}
use Rattle.mw_written.specs.OrderLaws.{NewLinesNameNewTypes}
use Rattle.mw_written.proofs.CompletedTypes.{type_among, among_type}

module _ (ls : List TypeLine) (ts : List TypeExpression) (known : AreTypeLines ls ts) (l : TypeLine)
    (t : TypeExpression) (names : NamesType ts (length ts) l t) where
  line_among : is_type_among t ts ≡ true → is_among l ls ≡ true
  line_among h =
      let p = among_type t ts h in
      let k = line_at ls ts known p.0 t p.1 in
      let same = has_one_line ls ts known t p.0 (length ts) k.0 l k.2 names in
      among ls p.0 l (k.1 ∙ ap (λ x. Some x) same)

  among_line : is_among l ls ≡ true → is_type_among t ts ≡ true
  among_line h =
      let p = place_among ls l h in
      let n = slice_get_within ls p.0 l p.1 in
      let u = slice_get-get_or ts p.0 int_ty (omega (arith, known.count)) in
      let named = known.each p.0 l (get_or ts p.0 int_ty) p.1 u in
      let same = one_type ts p.0 l (get_or ts p.0 int_ty) named ∙ sym (one_type ts (length ts) l t names) in
      type_among t ts p.0 (u ∙ ap (λ x. Some x) same)

  both : (x y : Bool) → is_among l ls ≡ x → is_type_among t ts ≡ y
      → AreTypeLines (if x then ls else ls ++ l ∷ []) (if y then ts else ts ++ t ∷ [])
  both true true h g = known
  both true false h g = absurd (true≢false (sym (among_line h) ∙ g))
  both false true h g = absurd (true≢false (sym (line_among g) ∙ h))
  both false false h g =
      subst (λ u. AreTypeLines (ls ++ l ∷ []) (ts ++ u ∷ [])) (sym (one_type ts (length ts) l t names))
      (pushed ls ts l known (parts_of ts (length ts) l t (omega arith) names) h)

  pub line_added : AreTypeLines (with_line ls l) (with_new ts t)
  line_added = both (is_among l ls) (is_type_among t ts) refl refl

pub new_lines : NewLinesNameNewTypes
new_lines = line_added
