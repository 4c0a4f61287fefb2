-- The lines that are written name the types that were written.
use Rattle.std.proofs.Common.{◌≡◌, ℕ, suc, ◌<◌, Bool, true, false, not, cond, List, [], ◌∷◌, length, get_or, Some}
use Rattle.std.proofs.Common.{refl, ap, sym, ◌∙◌, arith}
use Rattle.std.proofs.lemmas.Bool.{lt-ltb}
use Rattle.std.proofs.lemmas.Option.{slice_get-get_or}
use Rattle.mw_types.specs.Types.{TypeExpression, int_ty, bool_ty, unknown, pair_ty, function_ty, code_ty, closed_ty}
use Rattle.mw_types.specs.Types.{apply}
use Rattle.mw_lines.specs.TypeLines.{TypeLine, int_line, bool_line, unknown_line, pair_line, arrow_line, code_line}
use Rattle.mw_lines.specs.TypeLines.{closed_line, HoldsNoCode, AreTypeLines}
use Rattle.mw_lines.specs.Naming.{type_named, types_named}
use Rattle.mw_lines.specs.Deciding.{same_line, is_among, has_parts, holds_code}
use Rattle.mw_lines.proofs.NamedTypes.{line_same, one_type, pushed, types_named-push, and-true, absent_code}
use Rattle.mw_lines.proofs.NamedTypes.{lines_decided}
use Rattle.mw_section.specs.Writing.{Writing, type_written, classifier_written, line_written, place_of}
use Rattle.mw_section.specs.Writers.{unknown_written}
use Rattle.mw_section.specs.WritingLaws.{AreTyped, IsFormed, numbering, LinesAreTypeLines, LinesNameWritten}
use Rattle.mw_section.proofs.Places.{IsAt, place, Met, is_known, is_new, met, place_of_is, with_line_is, element}
use Rattle.mw_section.proofs.LaterWrites.{IsPlaced, placed, still_placed, continued_type}
use Rattle.mw_section.proofs.RepeatedWrites.{placed_written}

-- the type of a line at its place
named_at : (w : Writing) (l : TypeLine) (p : ℕ) → AreTyped w → IsAt same_line l w.lines p
    → get_or (types_named w.lines) p int_ty ≡ type_named (types_named w.lines) l
named_at w l p y h =
    let n : p < length (types_named w.lines) = (let e = y.count in let m = h.within in omega arith) in
    one_type (types_named w.lines) p l _
    (y.each p l _ (element same_line line_same l w.lines p h) (slice_get-get_or (types_named w.lines) p int_ty n))

-- so that of a type at its place is the type, renumbered
named : (w : Writing) → AreTyped w → (t : TypeExpression) (p : ℕ) → IsPlaced w t p
    → get_or (types_named w.lines) p int_ty ≡ apply (numbering w) t
named w y int_ty p h = named_at w int_line p y h
named w y bool_ty p h = named_at w bool_line p y h
named w y (unknown u) p h =
    named_at w (unknown_line h.0) p y h.2 ∙ ap unknown (sym (place_of_is u w.unknowns ∙ h.1.here))
named w y (pair_ty s t) p h =
    named_at w (pair_line h.0 h.1) p y h.4 ∙ rw (named w y s h.0 h.2, named w y t h.1 h.3) refl
named w y (function_ty s t) p h =
    named_at w (arrow_line h.0 h.1) p y h.4 ∙ rw (named w y s h.0 h.2, named w y t h.1 h.3) refl
named w y (code_ty c t) p h =
    named_at w (code_line h.0 h.1) p y h.4
    ∙ rw (named w y t h.1 h.3, place_of_is c w.classifiers, h.2.here) refl
named w y (closed_ty t) p h = named_at w (closed_line h.0) p y h.2 ∙ ap closed_ty (named w y t h.0 h.1)

-- a type at its place is within the lines
placed_within : (w : Writing) (t : TypeExpression) (p : ℕ) → IsPlaced w t p → p < length w.lines
placed_within w int_ty p h = h.within
placed_within w bool_ty p h = h.within
placed_within w (unknown u) p h = h.2.within
placed_within w (pair_ty s t) p h = h.4.within
placed_within w (function_ty s t) p h = h.4.within
placed_within w (code_ty c t) p h = h.4.within
placed_within w (closed_ty t) p h = h.2.within

pub name_written : LinesNameWritten
name_written t p w y h =
    let g = placed_written t p w h in
    let n : p < length (types_named w.lines) = (let e = y.count in let m = placed_within w t p g in omega arith) in
    slice_get-get_or (types_named w.lines) p int_ty n ∙ ap (λ s. Some s) (named w y t p g)

-- to renumber makes no code type, and takes none away
holds_code-numbering : (w : Writing) (t : TypeExpression) → holds_code (apply (numbering w) t) ≡ holds_code t
holds_code-numbering w int_ty = refl
holds_code-numbering w bool_ty = refl
holds_code-numbering w (unknown u) = refl
holds_code-numbering w (pair_ty s t) = rw (holds_code-numbering w s, holds_code-numbering w t) refl
holds_code-numbering w (function_ty s t) = rw (holds_code-numbering w s, holds_code-numbering w t) refl
holds_code-numbering w (code_ty c t) = refl
holds_code-numbering w (closed_ty t) = refl

formed : (t : TypeExpression) → HoldsNoCode t → IsFormed t
formed int_ty h = tt
formed bool_ty h = tt
formed (unknown u) h = tt
formed (pair_ty s t) h = (formed s h.0, formed t h.1)
formed (function_ty s t) h = (formed s h.0, formed t h.1)
formed _ h = absurd h

-- a line that is put behind others is none of them
none_behind : (b a : Bool) (p n : ℕ) → (p ≡ n → a ≡ false) → cond b 0 (suc p) ≡ suc n → cond b true a ≡ false
none_behind true a p n f h = absurd (omega arith)
none_behind false a p n f h = f (omega arith)

none_of : (l : TypeLine) (ls : List TypeLine) → place same_line l ls ≡ length ls → is_among l ls ≡ false
none_of l [] h = refl
none_of l (k ∷ ls) h = none_behind (same_line k l) _ _ (length ls) (none_of l ls) h

-- one more line
typed_by : (l : TypeLine) (p : ℕ) (ls ms : List TypeLine) → AreTypeLines ls (types_named ls)
    → has_parts (types_named ls) l ≡ true → (p ≡ length ls → is_among l ls ≡ false) → Met l p ls ms
    → AreTypeLines ms (types_named ms)
typed_by l p ls ms y h f (is_known n e) = rw e y
typed_by l p ls ms y h f (is_new n e) = rw (e, types_named-push ls l) (pushed ls (types_named ls) l y h (f n))

typed_line : (l : TypeLine) (w : Writing) → AreTyped w → has_parts (types_named w.lines) l ≡ true
    → AreTyped (line_written l w).writing
typed_line l w y h =
    rw (with_line_is l w.lines) (typed_by l _ w.lines _ y h (none_of l w.lines) (met same_line l w.lines))

-- a type at its place is a part that a line may have, and content where it holds no code
is_part : (w : Writing) (t : TypeExpression) (p : ℕ) → AreTyped w → IsPlaced w t p
    → p < length (types_named w.lines)
is_part w t p y h = let e = y.count in let m = placed_within w t p h in omega arith

is_content : (w : Writing) (t : TypeExpression) (p : ℕ) → AreTyped w → IsPlaced w t p → HoldsNoCode t
    → not (holds_code (get_or (types_named w.lines) p int_ty)) ≡ true
is_content w t p y h n = rw (named w y t p h, holds_code-numbering w t, absent_code t n) refl

pub typed : (t : TypeExpression) (w : Writing) → IsFormed t → AreTyped w → AreTyped (type_written t w).writing
typed int_ty w f y = typed_line int_line w y refl
typed bool_ty w f y = typed_line bool_line w y refl
typed (unknown u) w f y = typed_line (unknown_line (place_of u w.unknowns)) (unknown_written u w).writing y refl
typed (pair_ty s t) w f y =
    let a = (type_written s w).writing in
    let b = (type_written t a).writing in
    let z : AreTyped b = typed t a f.1 (typed s w f.0 y) in
    typed_line (pair_line (type_written s w).place (type_written t a).place) b z
    (and-true _ _ (lt-ltb _ _ (is_part b s _ z (still_placed a b (continued_type t a) s _ (placed s w))))
    (lt-ltb _ _ (is_part b t _ z (placed t a))))
typed (function_ty s t) w f y =
    let a = (type_written s w).writing in
    let b = (type_written t a).writing in
    let z : AreTyped b = typed t a f.1 (typed s w f.0 y) in
    typed_line (arrow_line (type_written s w).place (type_written t a).place) b z
    (and-true _ _ (lt-ltb _ _ (is_part b s _ z (still_placed a b (continued_type t a) s _ (placed s w))))
    (lt-ltb _ _ (is_part b t _ z (placed t a))))
typed (code_ty c t) w f y =
    let a = (classifier_written c w).writing in
    let b = (type_written t a).writing in
    let z : AreTyped b = typed t a (formed t f) y in
    typed_line (code_line (place_of c w.classifiers) (type_written t a).place) b z
    (and-true _ _ (lt-ltb _ _ (is_part b t _ z (placed t a))) (is_content b t _ z (placed t a) f))
typed (closed_ty t) w f y =
    let a = (type_written t w).writing in
    let z : AreTyped a = typed t w (formed t f) y in
    typed_line (closed_line (type_written t w).place) a z
    (and-true _ _ (lt-ltb _ _ (is_part a t _ z (placed t w))) (is_content a t _ z (placed t w) f))

pub are_type_lines : LinesAreTypeLines
are_type_lines = record { nothing = (lines_decided []).0 refl; type = typed; classifier = λ c w y. y }
