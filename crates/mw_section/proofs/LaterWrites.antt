-- What is written is at its place, and stays there where more is written.
use Rattle.std.proofs.Common.{◌≡◌, ℕ, Bool, List, [], ◌++◌, nat_eq, refl, ap, sym, ◌∙◌, append_assoc, append-nil}
use Rattle.std.proofs.lemmas.Bool.{eq-eqb}
use Rattle.mw_types.specs.Types.{TypeExpression, int_ty, bool_ty, unknown, pair_ty, function_ty, code_ty, closed_ty}
use Rattle.mw_lines.specs.TypeLines.{TypeLine, int_line, bool_line, unknown_line, pair_line, arrow_line, code_line}
use Rattle.mw_lines.specs.TypeLines.{closed_line}
use Rattle.mw_lines.specs.Deciding.{same_line}
use Rattle.mw_lines.proofs.NamedTypes.{same_line-refl}
use Rattle.mw_section.specs.Writing.{Writing, type_written, classifier_written, line_written, place_of}
use Rattle.mw_section.specs.Writing.{with_number, line_place, with_line}
use Rattle.mw_section.specs.Writers.{unknown_written}
use Rattle.mw_section.specs.WritingLaws.{IsContinued, WritingOnlyAdds}
use Rattle.mw_section.proofs.Places.{IsAt, place_of_is, with_number_is, line_place_is, with_line_is}
use Rattle.mw_section.proofs.Places.{at_stays, at_put, put_behind}

-- the type has its line at place p, its unknowns and classifiers have numbers, and so have its parts
abbrev pub IsPlaced : Writing → TypeExpression → ℕ → Type 0
IsPlaced w int_ty p = IsAt same_line int_line w.lines p
IsPlaced w bool_ty p = IsAt same_line bool_line w.lines p
IsPlaced w (unknown u) p = (k : ℕ) × IsAt nat_eq u w.unknowns k × IsAt same_line (unknown_line k) w.lines p
IsPlaced w (pair_ty s t) p =
    (i j : ℕ) × IsPlaced w s i × IsPlaced w t j × IsAt same_line (pair_line i j) w.lines p
IsPlaced w (function_ty s t) p =
    (i j : ℕ) × IsPlaced w s i × IsPlaced w t j × IsAt same_line (arrow_line i j) w.lines p
IsPlaced w (code_ty c t) p =
    (k i : ℕ) × IsAt nat_eq c w.classifiers k × IsPlaced w t i × IsAt same_line (code_line k i) w.lines p
IsPlaced w (closed_ty t) p = (i : ℕ) × IsPlaced w t i × IsAt same_line (closed_line i) w.lines p

-- more is written
same_list : {A : Type 0} (xs : List A) → (more : List A) × (xs ≡ xs ++ more)
same_list xs = ([], sym (append-nil xs))

longer : {A : Type 0} (xs ys zs : List A) → (more : List A) × (ys ≡ xs ++ more) → (more : List A) × (zs ≡ ys ++ more)
    → (more : List A) × (zs ≡ xs ++ more)
longer xs ys zs h g = (h.0 ++ g.0, g.1 ∙ ap (λ l. l ++ g.0) h.1 ∙ append_assoc xs h.0 g.0)

pub continued_same : (w : Writing) → IsContinued w w
continued_same w = record {
  unknowns = same_list w.unknowns;
  classifiers = same_list w.classifiers;
  lines = same_list w.lines;
}

pub continued_more : (w v x : Writing) → IsContinued w v → IsContinued v x → IsContinued w x
continued_more w v x h g = record {
  unknowns = longer w.unknowns v.unknowns x.unknowns h.unknowns g.unknowns;
  classifiers = longer w.classifiers v.classifiers x.classifiers h.classifiers g.classifiers;
  lines = longer w.lines v.lines x.lines h.lines g.lines;
}

number_behind : (n : ℕ) (ns : List ℕ) → (more : List ℕ) × (with_number n ns ≡ ns ++ more)
number_behind n ns = let b = put_behind nat_eq n ns in (b.0, with_number_is n ns ∙ b.1)

line_behind : (l : TypeLine) (ls : List TypeLine) → (more : List TypeLine) × (with_line l ls ≡ ls ++ more)
line_behind l ls = let b = put_behind same_line l ls in (b.0, with_line_is l ls ∙ b.1)

pub continued_unknown : (u : ℕ) (w : Writing) → IsContinued w (unknown_written u w).writing
continued_unknown u w = record {
  unknowns = number_behind u w.unknowns;
  classifiers = same_list w.classifiers;
  lines = same_list w.lines;
}

pub continued_classifier : (c : ℕ) (w : Writing) → IsContinued w (classifier_written c w).writing
continued_classifier c w = record {
  unknowns = same_list w.unknowns;
  classifiers = number_behind c w.classifiers;
  lines = same_list w.lines;
}

pub continued_line : (l : TypeLine) (w : Writing) → IsContinued w (line_written l w).writing
continued_line l w = record {
  unknowns = same_list w.unknowns;
  classifiers = same_list w.classifiers;
  lines = line_behind l w.lines;
}

-- two steps, and a line behind them
continued_line_behind : (w v x : Writing) (l : TypeLine) → IsContinued w v → IsContinued v x
    → IsContinued w (line_written l x).writing
continued_line_behind w v x l h g = continued_more w x _ (continued_more w v x h g) (continued_line l x)

pub continued_type : (t : TypeExpression) (w : Writing) → IsContinued w (type_written t w).writing
continued_type int_ty w = continued_line int_line w
continued_type bool_ty w = continued_line bool_line w
continued_type (unknown u) w =
    continued_more w _ _ (continued_unknown u w) (continued_line _ (unknown_written u w).writing)
continued_type (pair_ty s t) w =
    let a = (type_written s w).writing in
    continued_line_behind w a (type_written t a).writing _ (continued_type s w) (continued_type t a)
continued_type (function_ty s t) w =
    let a = (type_written s w).writing in
    continued_line_behind w a (type_written t a).writing _ (continued_type s w) (continued_type t a)
continued_type (code_ty c t) w =
    let a = (classifier_written c w).writing in
    continued_line_behind w a (type_written t a).writing _ (continued_classifier c w) (continued_type t a)
continued_type (closed_ty t) w =
    let a = (type_written t w).writing in continued_more w a _ (continued_type t w) (continued_line _ a)

-- what is at its place stays there
still_at : {A : Type 0} (same : A → A → Bool) (x : A) (xs ys : List A) (p : ℕ) → (more : List A) × (ys ≡ xs ++ more)
    → IsAt same x xs p → IsAt same x ys p
still_at same x xs ys p h g = rw h.1 (at_stays same x xs h.0 p g)

line_stays : (w v : Writing) → IsContinued w v → (l : TypeLine) (p : ℕ) → IsAt same_line l w.lines p
    → IsAt same_line l v.lines p
line_stays w v h l p g = still_at same_line l w.lines v.lines p h.lines g

pub still_placed : (w v : Writing) → IsContinued w v → (t : TypeExpression) (p : ℕ) → IsPlaced w t p → IsPlaced v t p
still_placed w v h int_ty p g = line_stays w v h int_line p g
still_placed w v h bool_ty p g = line_stays w v h bool_line p g
still_placed w v h (unknown u) p g =
    (g.0, still_at nat_eq u w.unknowns v.unknowns g.0 h.unknowns g.1, line_stays w v h _ p g.2)
still_placed w v h (pair_ty s t) p g =
    (g.0, g.1, still_placed w v h s g.0 g.2, still_placed w v h t g.1 g.3, line_stays w v h _ p g.4)
still_placed w v h (function_ty s t) p g =
    (g.0, g.1, still_placed w v h s g.0 g.2, still_placed w v h t g.1 g.3, line_stays w v h _ p g.4)
still_placed w v h (code_ty c t) p g =
    let k = still_at nat_eq c w.classifiers v.classifiers g.0 h.classifiers g.2 in
    (g.0, g.1, k, still_placed w v h t g.1 g.3, line_stays w v h _ p g.4)
still_placed w v h (closed_ty t) p g = (g.0, still_placed w v h t g.0 g.1, line_stays w v h _ p g.2)

-- what is written is at its place
pub number_at : (n : ℕ) (ns : List ℕ) → IsAt nat_eq n (with_number n ns) (place_of n ns)
number_at n ns = rw (with_number_is n ns, place_of_is n ns) (at_put nat_eq n ns (eq-eqb n n refl))

pub line_at : (l : TypeLine) (ls : List TypeLine) → IsAt same_line l (with_line l ls) (line_place l ls)
line_at l ls = rw (with_line_is l ls, line_place_is l ls) (at_put same_line l ls (same_line-refl l))

-- two parts, and a line behind them
two_placed : (s t : TypeExpression) (a b : Writing) (i j : ℕ) (l : TypeLine) → IsPlaced a s i → IsContinued a b
    → IsPlaced b t j → IsPlaced (line_written l b).writing s i × IsPlaced (line_written l b).writing t j
    × IsAt same_line l (line_written l b).writing.lines (line_written l b).place
two_placed s t a b i j l h g k =
    let m = continued_line l b in
    (still_placed a _ (continued_more a b _ g m) s i h, still_placed b _ m t j k, line_at l b.lines)

pub placed : (t : TypeExpression) (w : Writing) → IsPlaced (type_written t w).writing t (type_written t w).place
placed int_ty w = line_at int_line w.lines
placed bool_ty w = line_at bool_line w.lines
placed (unknown u) w = (place_of u w.unknowns, number_at u w.unknowns, line_at _ w.lines)
placed (pair_ty s t) w =
    let a = (type_written s w).writing in
    let p = two_placed s t a (type_written t a).writing _ _
    (pair_line (type_written s w).place (type_written t a).place)
    (placed s w) (continued_type t a) (placed t a) in
    ((type_written s w).place, (type_written t a).place, p.0, p.1, p.2)
placed (function_ty s t) w =
    let a = (type_written s w).writing in
    let p = two_placed s t a (type_written t a).writing _ _
    (arrow_line (type_written s w).place (type_written t a).place) (placed s w) (continued_type t a) (placed t a) in
    ((type_written s w).place, (type_written t a).place, p.0, p.1, p.2)
placed (code_ty c t) w =
    let a = (classifier_written c w).writing in
    let b = (type_written t a).writing in
    let l = continued_line (code_line (place_of c w.classifiers) (type_written t a).place) b in (
      place_of c w.classifiers,
      (type_written t a).place,
      still_at nat_eq c a.classifiers b.classifiers _ (continued_type t a).classifiers (number_at c w.classifiers),
      still_placed b _ l t _ (placed t a),
      line_at _ b.lines,
    )
placed (closed_ty t) w =
    let a = (type_written t w).writing in
    let l = continued_line (closed_line (type_written t w).place) a in
    ((type_written t w).place, still_placed a _ l t _ (placed t w), line_at _ a.lines)

pub only_adds : WritingOnlyAdds
only_adds = record {
  same = continued_same;
  more = continued_more;
  type = continued_type;
  classifier = continued_classifier;
}
