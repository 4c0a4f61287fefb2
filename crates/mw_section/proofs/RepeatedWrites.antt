-- To write a type again changes nothing.
use Rattle.std.proofs.Common.{◌≡◌, ℕ, nat_eq, refl, ap, ◌∙◌, subst}
use Rattle.mw_types.specs.Types.{TypeExpression, int_ty, bool_ty, unknown, pair_ty, function_ty, code_ty, closed_ty}
use Rattle.mw_lines.specs.TypeLines.{TypeLine, int_line, bool_line, unknown_line, pair_line, arrow_line, code_line}
use Rattle.mw_lines.specs.TypeLines.{closed_line}
use Rattle.mw_lines.specs.Deciding.{same_line}
use Rattle.mw_section.specs.Writing.{Writing, Written, type_written, classifier_written, line_written}
use Rattle.mw_section.specs.Writers.{unknown_written, IsWritten}
use Rattle.mw_section.specs.WritingLaws.{IsContinued, WrittenOnce}
use Rattle.mw_section.proofs.Places.{IsAt, place_of_is, with_number_is, line_place_is, with_line_is}
use Rattle.mw_section.proofs.Places.{put_again}
use Rattle.mw_section.proofs.LaterWrites.{IsPlaced, placed, still_placed}

-- what is at its place is not written again
line_again : (l : TypeLine) (w : Writing) (p : ℕ) → IsAt same_line l w.lines p
    → line_written l w ≡ record { place = p; writing = w }
line_again l w p h =
    rw (line_place_is l w.lines, h.here, with_line_is l w.lines, put_again same_line l w.lines p h) refl

unknown_again : (u : ℕ) (w : Writing) (k : ℕ) → IsAt nat_eq u w.unknowns k
    → unknown_written u w ≡ record { place = k; writing = w }
unknown_again u w k h =
    rw (place_of_is u w.unknowns, h.here, with_number_is u w.unknowns, put_again nat_eq u w.unknowns k h) refl

classifier_again : (c : ℕ) (w : Writing) (k : ℕ) → IsAt nat_eq c w.classifiers k
    → classifier_written c w ≡ record { place = k; writing = w }
classifier_again c w k h =
    rw (place_of_is c w.classifiers, h.here, with_number_is c w.classifiers, put_again nat_eq c w.classifiers k h) refl

-- a line of the answers of steps
after_one : (line : ℕ → TypeLine) (w : Writing) (a : Written) (i p : ℕ) → a ≡ record { place = i; writing = w }
    → line_written (line i) w ≡ record { place = p; writing = w }
    → line_written (line a.place) a.writing ≡ record { place = p; writing = w }
after_one line w a i p e f = ap (λ (x : Written). line_written (line x.place) x.writing) e ∙ f

after_two : (line : ℕ → ℕ → TypeLine) (w : Writing) (a : Written) (next : Writing → Written) (i j p : ℕ)
    → a ≡ record { place = i; writing = w } → next w ≡ record { place = j; writing = w }
    → line_written (line i j) w ≡ record { place = p; writing = w }
    → line_written (line a.place (next a.writing).place) (next a.writing).writing ≡ record { place = p; writing = w }
after_two line w a next i j p e g f =
    ap (λ (x : Written). line_written (line x.place (next x.writing).place) (next x.writing).writing) e
    ∙ after_one (line i) w (next w) j p g f

pub again : (t : TypeExpression) (p : ℕ) (w : Writing) → IsPlaced w t p → IsWritten t p w
again int_ty p w h = line_again int_line w p h
again bool_ty p w h = line_again bool_line w p h
again (unknown u) p w h =
    after_one unknown_line w (unknown_written u w) h.0 p (unknown_again u w h.0 h.1)
    (line_again (unknown_line h.0) w p h.2)
again (pair_ty s t) p w h =
    after_two pair_line w (type_written s w) (type_written t) h.0 h.1 p (again s h.0 w h.2) (again t h.1 w h.3)
    (line_again (pair_line h.0 h.1) w p h.4)
again (function_ty s t) p w h =
    after_two arrow_line w (type_written s w) (type_written t) h.0 h.1 p (again s h.0 w h.2) (again t h.1 w h.3)
    (line_again (arrow_line h.0 h.1) w p h.4)
again (code_ty c t) p w h =
    after_two code_line w (classifier_written c w) (type_written t) h.0 h.1 p (classifier_again c w h.0 h.2)
    (again t h.1 w h.3)
    (line_again (code_line h.0 h.1) w p h.4)
again (closed_ty t) p w h =
    after_one closed_line w (type_written t w) h.0 p (again t h.0 w h.1) (line_again (closed_line h.0) w p h.2)

-- and what is written is at its place
pub placed_written : (t : TypeExpression) (p : ℕ) (w : Writing) → IsWritten t p w → IsPlaced w t p
placed_written t p w h = subst (λ (r : Written). IsPlaced r.writing t r.place) h (placed t w)

pub written_here : (t : TypeExpression) (w : Writing) → IsWritten t (type_written t w).place (type_written t w).writing
written_here t w = again t _ _ (placed t w)

pub written_later : (t : TypeExpression) (p : ℕ) (w v : Writing) → IsWritten t p w → IsContinued w v → IsWritten t p v
written_later t p w v h g = again t p v (still_placed w v g t p (placed_written t p w h))

pub once : WrittenOnce
once = record { here = written_here; later = written_later }
