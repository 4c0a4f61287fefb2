-- Whether a classifier stands in the types of lines is told by a walk down the marks of what holds code.
use Rattle.std.proofs.Common.{◌≡◌, ℕ, zero, suc, ◌<◌, ◌≤◌, ◌⊎◌, inl, inr, Bool, true, false, cond, List, [], ◌∷◌}
use Rattle.std.proofs.Common.{length, Some, None, refl, ap, ◌∙◌, arith, subst}
use Rattle.std.specs.Prelude.{slice_get, slice_index, slice_set}
use Rattle.std.proofs.lemmas.Option.{slice_get_within, slice_get-get_or}
use Rattle.std.proofs.lemmas.List.{get_or_past}
use Rattle.mw_types.specs.Types.{TypeExpression, int_ty, bool_ty, unknown, pair_ty, function_ty}
use Rattle.mw_types.proofs.Lists.{set_length}
use Rattle.mw_lines.specs.TypeLines.{TypeLine, int_line, bool_line, unknown_line, pair_line, arrow_line, code_line}
use Rattle.mw_lines.specs.TypeLines.{closed_line}
use Rattle.mw_lines.specs.Naming.{type_named}
use Rattle.mw_lines.specs.Deciding.{holds_code, has_parts, is_in}
use Rattle.mw_lines.specs.Images.{HasPartsBelow}
use Rattle.mw_lines.specs.Marks.{EndsCode, is_marked, marks_with, marks_of_parts, names_classifier}
use Rattle.mw_lines.specs.Marks.{Passes, IsPassed}
use Rattle.mw_lines.specs.Tables.{lines_of, types_of, type_at, AreHeld, is_in_one}
use Rattle.mw_lines.specs.declared.table.TypeLines.{TypeLines}
use Rattle.mw_lines.proofs.NamedTypes.{one_type, parts_of, and-both, not-false, either-false, both-false}
use Rattle.mw_lines.proofs.ImageSearch.{parts_within}

-- the marks of the places up to an index, and no others
pub record AreMarks (t : TypeLines) (places : List ℕ) (count : ℕ) (marks : List Bool) : Type 0 where
  pub ones : (k : ℕ) → is_marked marks k ≡ true → (i : ℕ) × (i < count) × (slice_index places i ≡ k)
  pub each : (i : ℕ) → i < count → holds_code (type_at t (slice_index places i)) ≡ true
      → is_marked marks (slice_index places i) ≡ true

-- what the walk knows: the classifier stands in one of the places' types just where it stands in that of a mark below
pub record Walks (t : TypeLines) (a : ℕ) (places : List ℕ) (marks : List Bool) (left : ℕ) : Type 0 where
  pub within : left ≤ length marks
  pub clear : is_in_one t a places ≡ false → (k : ℕ) → is_marked marks k ≡ true → is_in a (type_at t k) ≡ false
  pub absent : ((k : ℕ) → k < left → is_marked marks k ≡ true → is_in a (type_at t k) ≡ false)
      → is_in_one t a places ≡ false

-- what holds no code has no classifier
pub none_without_code : (a : ℕ) (t : TypeExpression) → holds_code t ≡ false → is_in a t ≡ false
none_without_code a int_ty h = refl
none_without_code a bool_ty h = refl
none_without_code a (unknown u) h = refl
none_without_code a (pair_ty s t) h =
    let p = either-false _ _ h in both-false _ _ (none_without_code a s p.0) (none_without_code a t p.1)
none_without_code a (function_ty s t) h =
    let p = either-false _ _ h in both-false _ _ (none_without_code a s p.0) (none_without_code a t p.1)
none_without_code a _ h = absurd (cc)

-- marks after one more
set_grows : (marks : List Bool) (i k : ℕ) → is_marked marks k ≡ true → is_marked (slice_set marks i true) k ≡ true
set_grows [] i k h = h
set_grows (m ∷ marks) zero zero h = refl
set_grows (m ∷ marks) zero (suc k) h = h
set_grows (m ∷ marks) (suc i) zero h = h
set_grows (m ∷ marks) (suc i) (suc k) h = set_grows marks i k h

set_only : (marks : List Bool) (i k : ℕ) → is_marked (slice_set marks i true) k ≡ true
    → (is_marked marks k ≡ true) ⊎ (i ≡ k)
set_only [] i k h = inl h
set_only (m ∷ marks) zero zero h = inr refl
set_only (m ∷ marks) zero (suc k) h = inl h
set_only (m ∷ marks) (suc i) zero h = inl h
set_only (m ∷ marks) (suc i) (suc k) h = elim (set_only marks i k h) [ inl e ↦ inl e | inr e ↦ inr (ap suc e) ]

set_here : (marks : List Bool) (i : ℕ) → i < length marks → is_marked (slice_set marks i true) i ≡ true
set_here [] i h = absurd (omega arith)
set_here (m ∷ marks) zero h = refl
set_here (m ∷ marks) (suc i) h = set_here marks i (omega arith)

module _ (t : TypeLines) where
  pub mark_grows : (marks : List Bool) (i k : ℕ) → is_marked marks k ≡ true → is_marked (marks_with t i marks) k ≡ true
  mark_grows marks i k h = by_code (holds_code (type_at t i))
    where
      by_code : (b : Bool) → is_marked (cond b (slice_set marks i true) marks) k ≡ true
      by_code true = set_grows marks i k h
      by_code false = h

  pub mark_only : (marks : List Bool) (i k : ℕ) → is_marked (marks_with t i marks) k ≡ true
      → (is_marked marks k ≡ true) ⊎ (i ≡ k)
  mark_only marks i k h = by_code (holds_code (type_at t i)) h
    where
      by_code : (b : Bool) → is_marked (cond b (slice_set marks i true) marks) k ≡ true
          → (is_marked marks k ≡ true) ⊎ (i ≡ k)
      by_code true h = set_only marks i k h
      by_code false h = inl h

  pub mark_here : (marks : List Bool) (i : ℕ) → i < length marks → holds_code (type_at t i) ≡ true
      → is_marked (marks_with t i marks) i ≡ true
  mark_here marks i n h = rw h (set_here marks i n)

  pub mark_length : (marks : List Bool) (i : ℕ) → length (marks_with t i marks) ≡ length marks
  mark_length marks i = by_code (holds_code (type_at t i))
    where
      by_code : (b : Bool) → length (cond b (slice_set marks i true) marks) ≡ length marks
      by_code true = set_length marks i true
      by_code false = refl

  -- the type of a line, and its parts
  module _ (held : AreHeld t) where
    pub type_of_line : (p : ℕ) (l : TypeLine) → slice_get (lines_of t) p ≡ Some l
        → type_at t p ≡ type_named (types_of t) l
    type_of_line p l h =
        let n = slice_get_within (lines_of t) p l h in
        let c = held.lines.count in
        let s = slice_get-get_or (types_of t) p int_ty (omega arith) in
        one_type (types_of t) p l (type_at t p) (held.lines.each p l (type_at t p) h s)

    pub line_parts : (p : ℕ) (l : TypeLine) → slice_get (lines_of t) p ≡ Some l → has_parts (types_of t) l ≡ true
    line_parts p l h =
        let n = slice_get_within (lines_of t) p l h in
        let c = held.lines.count in
        let s = slice_get-get_or (types_of t) p int_ty (omega arith) in
        parts_of (types_of t) p l (type_at t p) (omega arith) (held.lines.each p l (type_at t p) h s)

    -- past the lines
    no_line : (ls : List TypeLine) (p : ℕ) → slice_get ls p ≡ None → length ls ≤ p
    no_line [] p h = omega arith
    no_line (l ∷ ls) zero h = absurd (cc)
    no_line (l ∷ ls) (suc p) h = let n = no_line ls p h in omega arith

    pub none_past : (a p : ℕ) → slice_get (lines_of t) p ≡ None → is_in a (type_at t p) ≡ false
    none_past a p h =
        let n = no_line (lines_of t) p h in
        let c = held.lines.count in
        rw (get_or_past (types_of t) p int_ty (omega arith)) refl

    -- a step down
    module _ (a p : ℕ) (l : TypeLine) (at : slice_get (lines_of t) p ≡ Some l) where
      pub found_here : names_classifier a l ≡ true → is_in a (type_at t p) ≡ true
      found_here h = rw (type_of_line p l at) (named l h)
        where
          named : (l : TypeLine) → names_classifier a l ≡ true → is_in a (type_named (types_of t) l) ≡ true
          named (code_line c i) h = rw h refl
          named _ h = absurd (cc)

      -- a part of the line that is no mark holds no code
      part_clear : (old new : List Bool) (i : ℕ) → i < p
          → (holds_code (type_at t i) ≡ true → is_marked new i ≡ true)
          → ((k : ℕ) → k < p → is_marked new k ≡ true → is_in a (type_at t k) ≡ false) → is_in a (type_at t i) ≡ false
      part_clear old new i n m all = by_code (holds_code (type_at t i)) refl
        where
          by_code : (b : Bool) → holds_code (type_at t i) ≡ b → is_in a (type_at t i) ≡ false
          by_code true e = all i n (m e)
          by_code false e = none_without_code a (type_at t i) e

      two_clear : (old : List Bool) (i j : ℕ) → i < p → j < p → p < length old
          → ((k : ℕ) → k < p → is_marked (marks_with t j (marks_with t i old)) k ≡ true
          → is_in a (type_at t k) ≡ false)
          → cond (is_in a (type_at t i)) true (is_in a (type_at t j)) ≡ false
      two_clear old i j m n le all =
          let one = λ (e : holds_code (type_at t i) ≡ true).
          mark_grows (marks_with t i old) j i (mark_here old i (omega arith) e) in
          let long = mark_length old i in
          let two = λ (e : holds_code (type_at t j) ≡ true). mark_here (marks_with t i old) j (omega arith) e in
          both-false _ _ (part_clear old _ i m one all) (part_clear old _ j n two all)

      pub passed_line : (old : List Bool) → p < length old → names_classifier a l ≡ false
          → IsPassed t a (marks_of_parts t l old) p
      passed_line old n h all =
          rw (type_of_line p l at) (by_line l (parts_within t p p l held at (omega arith)) (line_parts p l at) h all)
        where
          by_line : (l : TypeLine) → HasPartsBelow p l → has_parts (types_of t) l ≡ true → names_classifier a l ≡ false
              → ((k : ℕ) → k < p → is_marked (marks_of_parts t l old) k ≡ true → is_in a (type_at t k) ≡ false)
              → is_in a (type_named (types_of t) l) ≡ false
          by_line int_line b c h all = refl
          by_line bool_line b c h all = refl
          by_line (unknown_line u) b c h all = refl
          by_line (pair_line i j) b c h all = two_clear old i j b.0 b.1 n all
          by_line (arrow_line i j) b c h all = two_clear old i j b.0 b.1 n all
          by_line (code_line d i) b c h all =
              both-false _ _ h (none_without_code a (type_at t i) (not-false _ (and-both _ _ c).1))
          by_line (closed_line i) b c h all = none_without_code a (type_at t i) (not-false _ (and-both _ _ c).1)

      -- what is newly marked is a part
      two_parts : (old : List Bool) (i j k : ℕ) → is_marked old p ≡ true
          → is_marked (marks_with t j (marks_with t i old)) k ≡ true
          → (is_in a (type_at t p) ≡ false → (is_in a (type_at t i) ≡ false) × (is_in a (type_at t j) ≡ false))
          → (is_marked old k ≡ true)
          ⊎ ((is_marked old p ≡ true) × (is_in a (type_at t p) ≡ false → is_in a (type_at t k) ≡ false))
      two_parts old i j k m h parts = elim (mark_only (marks_with t i old) j k h) [
        | inl e ↦ elim (mark_only old i k e) [
          | inl f ↦ inl f
          | inr f ↦ inr (m, λ z. subst (λ n. is_in a (type_at t n) ≡ false) f (parts z).0)
        ]
        | inr e ↦ inr (m, λ z. subst (λ n. is_in a (type_at t n) ≡ false) e (parts z).1)
      ]

      pub passes_line : (old : List Bool) → is_marked old p ≡ true → Passes t a old (marks_of_parts t l old) p
      passes_line old m = by_line l (type_of_line p l at)
        where
          by_line : (l : TypeLine) → type_at t p ≡ type_named (types_of t) l → Passes t a old (marks_of_parts t l old) p
          by_line (pair_line i j) e = record {
            count = mark_length (marks_with t i old) j ∙ mark_length old i;
            grows = λ k h. mark_grows (marks_with t i old) j k (mark_grows old i k h);
            clear = λ k h. two_parts old i j k m h (λ z. either-false _ _ (rw e at z));
          }
          by_line (arrow_line i j) e = record {
            count = mark_length (marks_with t i old) j ∙ mark_length old i;
            grows = λ k h. mark_grows (marks_with t i old) j k (mark_grows old i k h);
            clear = λ k h. two_parts old i j k m h (λ z. either-false _ _ (rw e at z));
          }
          by_line _ e = record { count = refl; grows = λ k h. h; clear = λ k h. inl h }

-- the places' types
pub one_clear : (t : TypeLines) (a : ℕ) (places : List ℕ) → is_in_one t a places ≡ false → (i : ℕ) → i < length places
    → is_in a (type_at t (slice_index places i)) ≡ false
one_clear t a [] h i n = absurd (omega arith)
one_clear t a (p ∷ places) h zero n = (either-false _ _ h).0
one_clear t a (p ∷ places) h (suc i) n =
    one_clear t a places (either-false (is_in a (type_at t p)) _ h).1 i (omega arith)

pub all_clear : (t : TypeLines) (a : ℕ) (places : List ℕ)
    → ((i : ℕ) → i < length places → is_in a (type_at t (slice_index places i)) ≡ false) → is_in_one t a places ≡ false
all_clear t a [] h = refl
all_clear t a (p ∷ places) h =
    both-false _ _ (h zero (omega arith)) (all_clear t a places (λ i n. h (suc i) (omega arith)))

-- no place's type holds code
pub none_ends : (t : TypeLines) (a : ℕ) (places : List ℕ) → EndsCode t places (length places) 0
    → is_in_one t a places ≡ false
none_ends t a places h = all_clear t a places (λ i n. by_code i n (holds_code (type_at t (slice_index places i))) refl)
  where
    by_code : (i : ℕ) → i < length places → (b : Bool) → holds_code (type_at t (slice_index places i)) ≡ b
        → is_in a (type_at t (slice_index places i)) ≡ false
    by_code i n true e = absurd (let l = h.covers i n e in omega arith)
    by_code i n false e = none_without_code a (type_at t (slice_index places i)) e

-- the walk
pub first_walk : (t : TypeLines) (a : ℕ) (places : List ℕ) (marks : List Bool)
    → EndsCode t places (length places) (length marks)
    → AreMarks t places (length places) marks → Walks t a places marks (length marks)
first_walk t a places marks ends h = record {
  within = omega arith;
  clear =
      λ z k e. let p = h.ones k e in subst (λ n. is_in a (type_at t n) ≡ false) p.2 (one_clear t a places z p.0 p.1);
  absent = λ all. all_clear t a places (λ i n. by_code all i n (holds_code (type_at t (slice_index places i))) refl);
}
  where
    by_code : ((k : ℕ) → k < length marks → is_marked marks k ≡ true → is_in a (type_at t k) ≡ false)
        → (i : ℕ) → i < length places → (b : Bool) → holds_code (type_at t (slice_index places i)) ≡ b
        → is_in a (type_at t (slice_index places i)) ≡ false
    by_code all i n true e = all (slice_index places i) (ends.covers i n e) (h.each i n e)
    by_code all i n false e = none_without_code a (type_at t (slice_index places i)) e
