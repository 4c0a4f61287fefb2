-- Type lines as they are held: their first ones, and one more.
use Rattle.std.proofs.Common.{◌≡◌, ℕ, Bool, true, false, ◌&&◌, nat_eq, List, [], ◌∷◌, ◌++◌, map, take}
use Rattle.std.proofs.Common.{refl, ap, sym, ◌∙◌, subst}
use Rattle.std.proofs.lemmas.List.{take-map, map-append}
use Rattle.std.specs.Ordering.{nat_cmp, ordering_then, is_eq}
use Rattle.std.specs.Cmp.{unsigned_ties}
use Rattle.std.specs.declared.cmp.Ordering.{Ordering}
use Rattle.std.specs.declared.cmp.Ordering.TheVariants.{Less, Equal, Greater}
use Rattle.std.specs.BTreeSet.{Updates}
use Rattle.mw_lines.specs.TypeLines.{TypeLine, line_of}
use Rattle.mw_lines.specs.Naming.{type_named, types_named}
use Rattle.mw_lines.specs.Deciding.{holds_code, same_line, is_among, has_parts}
use Rattle.mw_lines.specs.Tables.{lines_of, types_of, AreHeld, compare_lines, IsReading}
use Rattle.mw_lines.specs.declared.lines.Line.{Line}
use Rattle.mw_lines.specs.declared.lines.Line.TheVariants.{Int, Bool as BoolLine, Unknown, Pair, Arrow, Code, Closed}
use Rattle.mw_lines.specs.declared.table.TypeLines.{TypeLines}
use Rattle.mw_lines.specs.declared.table.LineReader.{LineReader}
use Rattle.mw_lines.proofs.NamedTypes.{first_types, one_list, pushed, types_named-push, is_among-push}

pub front_lines : (t r : TypeLines) (n : ℕ) → r.lines.items ≡ take n t.lines.items → lines_of r ≡ take n (lines_of t)
front_lines t r n e = ap (λ xs. map line_of xs) e ∙ sym (take-map line_of n t.lines.items)

pub front_held : (t r : TypeLines) (n : ℕ) → AreHeld t → r.lines.items ≡ take n t.lines.items
    → r.codes.items ≡ take n t.codes.items
    → AreHeld r
front_held t r n h e f =
    let lines = front_lines t r n e in
    let small = first_types n (lines_of t) (types_of t) h.lines in
    let same = one_list (take n (lines_of t)) (take n (types_of t)) small in
    let types : take n (types_of t) ≡ types_of r = same ∙ ap types_named (sym lines) in
    record {
      lines = rw (lines, sym same) small;
      codes =
          f ∙ ap (λ xs. take n xs) h.codes ∙ take-map holds_code n (types_of t) ∙ ap (λ xs. map holds_code xs) types;
    }

-- lines are equal in their order where they are the same line
ties : (x y : Ordering) → is_eq (ordering_then x y) ≡ (is_eq x && is_eq y)
ties Less y = refl
ties Equal y = refl
ties Greater y = refl

two_ties : (i j k l : ℕ) → is_eq (ordering_then (nat_cmp i k) (nat_cmp j l)) ≡ (nat_eq i k && nat_eq j l)
two_ties i j k l = ties (nat_cmp i k) (nat_cmp j l) ∙ rw (sym (unsigned_ties i k), sym (unsigned_ties j l)) refl

pub equal_lines : (k l : Line) → is_eq (compare_lines k l) ≡ same_line (line_of k) (line_of l)
equal_lines Int Int = refl
equal_lines BoolLine BoolLine = refl
equal_lines (Unknown u) (Unknown v) = sym (unsigned_ties u v)
equal_lines (Pair i j) (Pair k l) = two_ties i j k l
equal_lines (Arrow i j) (Arrow k l) = two_ties i j k l
equal_lines (Code c i) (Code d k) = two_ties c i d k
equal_lines (Closed i) (Closed k) = sym (unsigned_ties i k)
equal_lines _ _ = refl

pub push_reading : (r s : LineReader) (l : Line) → IsReading r (lines_of r.known)
    → has_parts (types_of r.known) (line_of l) ≡ true
    → is_among (line_of l) (lines_of r.known) ≡ false → s.known.lines.items ≡ r.known.lines.items ++ l ∷ []
    → s.known.codes.items ≡ r.known.codes.items ++ holds_code (type_named (types_of r.known) (line_of l)) ∷ []
    → Updates compare_lines r.seen s.seen l true → IsReading s (lines_of r.known ++ line_of l ∷ [])
push_reading r s l h parts new e f u =
    let lines : lines_of s.known ≡ lines_of r.known ++ line_of l ∷ [] =
    ap (λ xs. map line_of xs) e ∙ map-append line_of r.known.lines.items (l ∷ []) in
    let types : types_of s.known ≡ types_of r.known ++ type_named (types_of r.known) (line_of l) ∷ [] =
    ap types_named lines ∙ types_named-push (lines_of r.known) (line_of l) in
    record {
      known = lines;
      held = record {
        lines = rw (types, lines) (pushed (lines_of r.known) (types_of r.known) (line_of l) h.held.lines parts new);
        codes = f ∙ rw (types, h.held.codes) (sym (map-append holds_code (types_of r.known) _));
      };
      seen =
          λ q. u.0 q ∙ rw (equal_lines l q, h.seen q) (sym (is_among-push (line_of q) (line_of l) (lines_of r.known)));
    }

-- what a reader has read is what it holds
pub reading_known : (r : LineReader) (ls : List TypeLine) → IsReading r ls → IsReading r (lines_of r.known)
reading_known r ls h = subst (λ xs. IsReading r xs) (sym h.known) h

pub still_reading : (r : LineReader) (yes : Bool) (ls ms : List TypeLine) → (yes ≡ true → IsReading r ls)
    → (yes ≡ false → IsReading r ms) → IsReading r (lines_of r.known)
still_reading r true ls ms h g = reading_known r ls (h refl)
still_reading r false ls ms h g = reading_known r ms (g refl)
