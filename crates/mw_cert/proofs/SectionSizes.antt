-- What is written for nodes of small types, of which there are few, fits a certificate's text: each node of a type adds
-- at most a line and a number.
use Rattle.std.proofs.Common.{ℕ, suc, ◌+◌, ◌*◌, ◌<◌, ◌≤◌, ◌^◌, nat_eq, List, [], ◌∷◌, ◌++◌}
use Rattle.std.proofs.Common.{length, length-append, Option, Some, None, arith}
use Rattle.mw_types.specs.Types.{TypeExpression, int_ty, bool_ty, unknown, pair_ty, function_ty, code_ty, closed_ty}
use Rattle.mw_types.specs.Types.{nodes}
use Rattle.mw_lines.specs.TypeLines.{TypeLine, int_line, bool_line}
use Rattle.mw_lines.specs.Deciding.{same_line}
use Rattle.mw_recheck.specs.Sections.{FitsLine, FitNumbers, FitLines, FitNodes, FitsSection}
use Rattle.mw_infer.specs.Nodes.{NodeFacts}
use Rattle.mw_section.specs.Writing.{Writing, Written, place_of, with_number, line_place, with_line, nothing_written}
use Rattle.mw_section.specs.Writing.{line_written, classifier_written, type_written}
use Rattle.mw_section.specs.WritingLaws.{all_written}
use Rattle.mw_section.proofs.Places.{place_of_is, with_number_is, line_place_is, with_line_is, Met, is_known, is_new}
use Rattle.mw_section.proofs.Places.{met}
use Rattle.mw_made.specs.Making.{line_ended, nodes_written, section_of}
use Rattle.mw_made.proofs.WrittenNodes.{nodes_count}

-- what is put to others is one more at most, and its place is not behind them
met_low : {A : Type 0} (x : A) (p : ℕ) (xs ys : List A) → Met x p xs ys
    → (p ≤ length xs) × (length ys ≤ suc (length xs))
met_low x p xs ys (is_known h e) = (omega arith, rw e (omega arith))
met_low x p xs ys (is_new h e) = (omega arith, rw e (simp length-append (omega arith)))

number_low : (n : ℕ) (ns : List ℕ) → (place_of n ns ≤ length ns) × (length (with_number n ns) ≤ suc (length ns))
number_low n ns = rw (place_of_is n ns, with_number_is n ns) (met_low n _ ns _ (met nat_eq n ns))

line_low : (l : TypeLine) (ls : List TypeLine) → (line_place l ls ≤ length ls)
    × (length (with_line l ls) ≤ suc (length ls))
line_low l ls = rw (line_place_is l ls, with_line_is l ls) (met_low l _ ls _ (met same_line l ls))

-- lines fit with one more that fits
fit_behind : (ls : List TypeLine) (l : TypeLine) → FitLines ls → FitsLine l → FitLines (ls ++ l ∷ [])
fit_behind [] l h f = (f, tt)
fit_behind (k ∷ ls) l h f = (h.0, fit_behind ls l h.1 f)

met_fit : (l : TypeLine) (p : ℕ) (ls ks : List TypeLine) → FitLines ls → FitsLine l → Met l p ls ks → FitLines ks
met_fit l p ls ks h f (is_known lt e) = rw e h
met_fit l p ls ks h f (is_new q e) = rw e (fit_behind ls l h f)

line_fit : (l : TypeLine) (ls : List TypeLine) → FitLines ls → FitsLine l → FitLines (with_line l ls)
line_fit l ls h f = rw (with_line_is l ls) (met_fit l _ ls _ h f (met same_line l ls))

-- at most so many unknowns, classifiers and lines are written, and the numbers of the lines fit
record IsFew (k : ℕ) (w : Writing) : Type 0 where
  count : length w.unknowns + length w.classifiers + length w.lines ≤ k
  fit : FitLines w.lines

more_few : (k l : ℕ) (w : Writing) → k ≤ l → IsFew k w → IsFew l w
more_few k l w le h = record { count = let c = h.count in omega arith; fit = h.fit }

-- after a step at most so many are, and the place that it gives is no higher
record Adds (k : ℕ) (a : Written) : Type 0 where
  place : a.place ≤ k
  few : IsFew k a.writing

adds_line : (k l : ℕ) (x : TypeLine) (w : Writing) → suc k ≤ l → FitsLine x → IsFew k w → Adds l (line_written x w)
adds_line k l x w le f h =
    let c = h.count in
    let n = line_low x w.lines in
    record {
      place = omega arith;
      few = record { count = omega arith; fit = line_fit x w.lines h.fit f };
    }

adds_unknown : (k : ℕ) (u : ℕ) (w : Writing) → IsFew k w
    → IsFew (suc k) (record { unknowns = with_number u w.unknowns; classifiers = w.classifiers; lines = w.lines })
adds_unknown k u w h =
    let c = h.count in let n = number_low u w.unknowns in record { count = omega arith; fit = h.fit }

adds_classifier : (k c : ℕ) (w : Writing) → IsFew k w → Adds (suc k) (classifier_written c w)
adds_classifier k c w h =
    let e = h.count in
    let n = number_low c w.classifiers in
    record { place = omega arith; few = record { count = omega arith; fit = h.fit } }

-- a type's nodes add two each
adds_type : (k l : ℕ) (t : TypeExpression) (w : Writing) → k + 2 * nodes t ≤ l → l < 2 ^ 64 → IsFew k w
    → Adds l (type_written t w)
adds_type k l int_ty w le lt h = adds_line k l int_line w (omega arith) tt h
adds_type k l bool_ty w le lt h = adds_line k l bool_line w (omega arith) tt h
adds_type k l (unknown u) w le lt h =
    let c = h.count in
    let p = number_low u w.unknowns in
    adds_line (suc k) l _ _ (omega arith) (omega arith) (adds_unknown k u w h)
adds_type k l (pair_ty s t) w le lt h =
    let i = k + 2 * nodes s in
    let a = adds_type k i s w (omega arith) (omega arith) h in
    let b = adds_type i (i + 2 * nodes t) t _ (omega arith) (omega arith) a.few in
    adds_line (i + 2 * nodes t) l _ _ (omega arith) (omega (arith, a.place), omega (arith, b.place)) b.few
adds_type k l (function_ty s t) w le lt h =
    let i = k + 2 * nodes s in
    let a = adds_type k i s w (omega arith) (omega arith) h in
    let b = adds_type i (i + 2 * nodes t) t _ (omega arith) (omega arith) a.few in
    adds_line (i + 2 * nodes t) l _ _ (omega arith) (omega (arith, a.place), omega (arith, b.place)) b.few
adds_type k l (code_ty c t) w le lt h =
    let a = adds_classifier k c w h in
    let b = adds_type (suc k) (suc k + 2 * nodes t) t _ (omega arith) (omega arith) a.few in
    adds_line (suc k + 2 * nodes t) l _ _ (omega arith) (omega (arith, a.place), omega (arith, b.place)) b.few
adds_type k l (closed_ty t) w le lt h =
    let a = adds_type k (k + 2 * nodes t) t w (omega arith) (omega arith) h in
    adds_line (k + 2 * nodes t) l _ _ (omega arith) (omega (arith, a.place)) a.few

-- types of at most 10,000 nodes, and nodes with at most three of them
abbrev pub AreSmall : List TypeExpression → Type 0
AreSmall [] = Unit {0}
AreSmall (t ∷ ts) = (nodes t ≤ 10000) × AreSmall ts

abbrev pub AreSmallNodes : List NodeFacts → Type 0
AreSmallNodes [] = Unit {0}
AreSmallNodes (x ∷ facts) = ((length x.types ≤ 3) × AreSmall x.types) × AreSmallNodes facts

-- after a node's types, or its line: these numbers fit
record AddsAll (k : ℕ) (places : List ℕ) (w : Writing) : Type 0 where
  places_fit : FitNumbers places
  few : IsFew k w

adds_types : (k l : ℕ) (ts : List TypeExpression) (w : Writing) → k + 20000 * length ts ≤ l → l < 2 ^ 64 → AreSmall ts
    → IsFew k w → AddsAll l (all_written ts w).places (all_written ts w).writing
adds_types k l [] w le lt s h = record { places_fit = tt; few = more_few k l w (omega arith) h }
adds_types k l (t ∷ ts) w le lt s h =
    let n = s.0 in
    let a = adds_type k (k + 20000) t w (omega arith) (omega arith) h in
    let b = adds_types (k + 20000) l ts _ (omega arith) lt s.1 a.few in
    record { places_fit = (omega (arith, a.place), b.places_fit); few = b.few }

fit_last : (ns : List ℕ) (n : ℕ) → FitNumbers ns → n < 2 ^ 64 → FitNumbers (ns ++ n ∷ [])
fit_last [] n h lt = (lt, tt)
fit_last (m ∷ ns) n h lt = (h.0, fit_last ns n h.1 lt)

adds_end : (k : ℕ) (c : Option ℕ) (places : List ℕ) (w : Writing) → suc k < 2 ^ 64 → AddsAll k places w
    → AddsAll (suc k) (line_ended c places w).line (line_ended c places w).writing
adds_end k None places w lt h =
    record { places_fit = h.places_fit; few = more_few k (suc k) w (omega arith) h.few }
adds_end k (Some c) places w lt h =
    let a = adds_classifier k c w h.few in
    record { places_fit = fit_last places _ h.places_fit (omega (arith, a.place)); few = a.few }

-- a node adds at most 60,001
record AddsNodes (k : ℕ) (lines : List (List ℕ)) (w : Writing) : Type 0 where
  lines_fit : FitNodes lines
  few : IsFew k w

adds_nodes : (k l : ℕ) (facts : List NodeFacts) (w : Writing) → k + 60001 * length facts ≤ l → l < 2 ^ 64
    → AreSmallNodes facts → IsFew k w → AddsNodes l (nodes_written facts w).lines (nodes_written facts w).writing
adds_nodes k l [] w le lt s h = record { lines_fit = tt; few = more_few k l w (omega arith) h }
adds_nodes k l (x ∷ facts) w le lt s h =
    let n = s.0.0 in
    let a = adds_types k (k + 60000) x.types w (omega arith) (omega arith) s.0.1 h in
    let b = adds_end (k + 60000) x.classifier _ _ (omega arith) a in
    let c = adds_nodes (suc (k + 60000)) l facts _ (omega arith) lt s.1 b.few in
    record { lines_fit = (b.places_fit, c.lines_fit); few = c.few }

-- so a section of less than 2^32 nodes fits
pub section_fits : (facts : List NodeFacts) → AreSmallNodes facts → length facts < 2 ^ 32
    → FitsSection (section_of facts)
section_fits facts s lt =
    let nothing : IsFew 0 nothing_written = record { count = omega arith; fit = tt } in
    let a = adds_nodes 0 (60001 * length facts) facts nothing_written (omega arith) (omega arith) s nothing in
    let c = a.few.count in
    record {
      types = a.few.fit;
      nodes = a.lines_fit;
      type_count = omega arith;
      node_count = omega (arith, nodes_count facts nothing_written);
    }
