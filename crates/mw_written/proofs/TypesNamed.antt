-- Types that are read again add nothing, and there are lines for types as they are read.
use Rattle.std.proofs.Common.{◌≡◌, inl, inr, Bool, true, false, List, [], ◌∷◌, ◌++◌, length, refl, sym, subst}
use Rattle.std.proofs.Common.{if◌then◌else◌}
use Rattle.std.proofs.lemmas.Option.{slice_get_within}
use Rattle.mw_types.specs.Types.{TypeExpression, int_ty, bool_ty, unknown, pair_ty, function_ty, code_ty, closed_ty}
use Rattle.mw_lines.specs.TypeLines.{TypeLine, int_line, bool_line, unknown_line, pair_line, arrow_line, code_line}
use Rattle.mw_lines.specs.TypeLines.{closed_line, HoldsNoCode, NamesPart, AreTypeLines, names_int, names_bool}
use Rattle.mw_lines.specs.TypeLines.{names_unknown, names_pair, names_arrow, names_code, names_closed}
use Rattle.mw_lines.proofs.NamedTypes.{slice_get-more, slice_get-seam}
use Rattle.mw_written.specs.Readings.{Reading, a_type, a_classifier}
use Rattle.mw_written.specs.Order.{is_type_among, with_new, with_type, with_readings, with_line}
use Rattle.mw_written.specs.OrderLaws.{IsPartOf, IsOneOf, AreOrdered, ReadAgainAddsNothing, HoldsNoNestedCode}
use Rattle.mw_written.specs.OrderLaws.{ReadNoNestedCode, CompletedAreNamed}
use Rattle.mw_written.proofs.CompletedTypes.{type_among, among_type}
use Rattle.mw_written.proofs.NewLines.{line_added}

-- a type that stands isn't new
not_new : (ts : List TypeExpression) (t : TypeExpression) → IsOneOf t ts → with_new ts t ≡ ts
not_new ts t h = rw (type_among t ts h.0 h.1) refl

-- a part of a type that stands does too
part_stands : (ts : List TypeExpression) → AreOrdered ts → (w u : TypeExpression) → IsOneOf w ts → IsPartOf u w
    → IsOneOf u ts
part_stands ts known w u h q = let r = known.parts h.0 w u h.1 q in (r.0, r.2)

pub read_again : ReadAgainAddsNothing
read_again ts int_ty known h = not_new ts int_ty h
read_again ts bool_ty known h = not_new ts bool_ty h
read_again ts (unknown u) known h = not_new ts (unknown u) h
read_again ts (pair_ty s t) known h =
    let p = read_again ts s known (part_stands ts known (pair_ty s t) s h (inl refl)) in
    let q = read_again ts t known (part_stands ts known (pair_ty s t) t h (inr refl)) in
    rw (p, q) (not_new ts (pair_ty s t) h)
read_again ts (function_ty s t) known h =
    let p = read_again ts s known (part_stands ts known (function_ty s t) s h (inl refl)) in
    let q = read_again ts t known (part_stands ts known (function_ty s t) t h (inr refl)) in
    rw (p, q) (not_new ts (function_ty s t) h)
read_again ts (code_ty c t) known h =
    let p = read_again ts t known (part_stands ts known (code_ty c t) t h refl) in
    rw p (not_new ts (code_ty c t) h)
read_again ts (closed_ty t) known h =
    let p = read_again ts t known (part_stands ts known (closed_ty t) t h refl) in
    rw p (not_new ts (closed_ty t) h)

-- a type stands, and those that stood go on to
abbrev Keeps : List TypeExpression → List TypeExpression → Type 0
Keeps ts us = (u : TypeExpression) → IsOneOf u ts → IsOneOf u us

new_here : (ts : List TypeExpression) (t : TypeExpression) → IsOneOf t (with_new ts t) × Keeps ts (with_new ts t)
new_here ts t = of (is_type_among t ts) refl
  where
    of : (b : Bool) → is_type_among t ts ≡ b
        → IsOneOf t (if b then ts else ts ++ t ∷ []) × Keeps ts (if b then ts else ts ++ t ∷ [])
    of true h = (among_type t ts h, λ u g. g)
    of false h = ((length ts, slice_get-seam ts t []), λ u g. (g.0, slice_get-more ts (t ∷ []) g.0 u g.1))

-- so it is once a type is read
read_here : (ts : List TypeExpression) (t : TypeExpression) → IsOneOf t (with_type ts t) × Keeps ts (with_type ts t)
read_here ts int_ty = new_here ts int_ty
read_here ts bool_ty = new_here ts bool_ty
read_here ts (unknown u) = new_here ts (unknown u)
read_here ts (pair_ty s t) =
    let n = new_here (with_type (with_type ts s) t) (pair_ty s t) in
    (n.0, λ u h. n.1 u ((read_here (with_type ts s) t).1 u ((read_here ts s).1 u h)))
read_here ts (function_ty s t) =
    let n = new_here (with_type (with_type ts s) t) (function_ty s t) in
    (n.0, λ u h. n.1 u ((read_here (with_type ts s) t).1 u ((read_here ts s).1 u h)))
read_here ts (code_ty c t) =
    let n = new_here (with_type ts t) (code_ty c t) in (n.0, λ u h. n.1 u ((read_here ts t).1 u h))
read_here ts (closed_ty t) =
    let n = new_here (with_type ts t) (closed_ty t) in (n.0, λ u h. n.1 u ((read_here ts t).1 u h))

-- the lines of types after lines
abbrev Named : List TypeExpression → Type 0
Named ts = (lines : List TypeLine) × AreTypeLines lines ts

part_of : (ts : List TypeExpression) (t : TypeExpression) (h : IsOneOf t ts) → NamesPart ts (length ts) h.0 t
part_of ts t h = record { earlier = slice_get_within ts h.0 t h.1; named = h.1 }

unnested : (t : TypeExpression) → HoldsNoCode t → HoldsNoNestedCode t
unnested int_ty h = tt
unnested bool_ty h = tt
unnested (unknown u) h = tt
unnested (pair_ty s t) h = (unnested s h.0, unnested t h.1)
unnested (function_ty s t) h = (unnested s h.0, unnested t h.1)
unnested (code_ty c t) h = absurd h
unnested (closed_ty t) h = absurd h

pub type_named_so : (ts : List TypeExpression) → Named ts → (t : TypeExpression) → HoldsNoNestedCode t
    → Named (with_type ts t)
type_named_so ts n int_ty h = (with_line n.0 int_line, line_added n.0 ts n.1 int_line int_ty names_int)
type_named_so ts n bool_ty h = (with_line n.0 bool_line, line_added n.0 ts n.1 bool_line bool_ty names_bool)
type_named_so ts n (unknown u) h =
    (with_line n.0 (unknown_line u), line_added n.0 ts n.1 (unknown_line u) (unknown u) names_unknown)
type_named_so ts n (pair_ty s t) h =
    let us = with_type (with_type ts s) t in
    let m = type_named_so (with_type ts s) (type_named_so ts n s h.0) t h.1 in
    let r = read_here (with_type ts s) t in
    let p = r.1 s (read_here ts s).0 in
    let q = r.0 in
    let l = pair_line p.0 q.0 in
    (with_line m.0 l, line_added m.0 us m.1 l (pair_ty s t) (names_pair (part_of us s p) (part_of us t q)))
type_named_so ts n (function_ty s t) h =
    let us = with_type (with_type ts s) t in
    let m = type_named_so (with_type ts s) (type_named_so ts n s h.0) t h.1 in
    let r = read_here (with_type ts s) t in
    let p = r.1 s (read_here ts s).0 in
    let q = r.0 in
    let l = arrow_line p.0 q.0 in
    (with_line m.0 l, line_added m.0 us m.1 l (function_ty s t) (names_arrow (part_of us s p) (part_of us t q)))
type_named_so ts n (code_ty c t) h =
    let us = with_type ts t in
    let m = type_named_so ts n t (unnested t h) in
    let p = (read_here ts t).0 in
    let l = code_line c p.0 in
    (with_line m.0 l, line_added m.0 us m.1 l (code_ty c t) (names_code (part_of us t p) h))
type_named_so ts n (closed_ty t) h =
    let us = with_type ts t in
    let m = type_named_so ts n t (unnested t h) in
    let p = (read_here ts t).0 in
    let l = closed_line p.0 in
    (with_line m.0 l, line_added m.0 us m.1 l (closed_ty t) (names_closed (part_of us t p) h))

readings_named : (ts : List TypeExpression) → Named ts → (rs : List Reading) → ReadNoNestedCode rs
    → Named (with_readings ts rs)
readings_named ts n [] h = n
readings_named ts n (a_type t ∷ rs) h = readings_named (with_type ts t) (type_named_so ts n t h.0) rs h.1
readings_named ts n (a_classifier c ∷ rs) h = readings_named ts n rs h

no_lines : AreTypeLines [] []
no_lines = record { count = refl; each = λ i l t h g. absurd (cc); once = λ i j l h g. absurd (cc) }

pub completed_named : CompletedAreNamed
completed_named rs ts h f = subst (λ us. Named us) (sym h) (readings_named [] ([], no_lines) rs f)
