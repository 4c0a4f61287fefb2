-- The lines that are written for types name them with new numbers: each number by its place.
use Rattle.std.proofs.Common.{◌≡◌, ℕ, suc, ◌<◌, Bool, true, false, cond, nat_eq, List, [], ◌∷◌, length, Some, refl, ap}
use Rattle.std.proofs.Common.{sym, ◌∙◌, arith}
use Rattle.std.specs.Prelude.{slice_get}
use Rattle.mw_types.specs.Types.{TypeExpression, int_ty, bool_ty, unknown, pair_ty, function_ty, code_ty, closed_ty}
use Rattle.mw_types.specs.Types.{apply}
use Rattle.mw_lines.specs.Naming.{types_named}
use Rattle.mw_section.specs.Writing.{Writing, place_of}
use Rattle.mw_section.specs.Writers.{IsWritten}
use Rattle.mw_section.specs.WritingLaws.{AreTyped, numbering}
use Rattle.mw_section.proofs.Places.{IsAt, place, place_of_is}
use Rattle.mw_section.proofs.LaterWrites.{IsPlaced}
use Rattle.mw_section.proofs.RepeatedWrites.{placed_written}
use Rattle.mw_section.proofs.NamedTypes.{name_written}
use Rattle.mw_agree.specs.Telling.{renaming}
use Rattle.mw_agree.proofs.Numbers.{number_by, numbers_by}

step : (b : Bool) (m n k : ℕ) → (m < n → k ≡ m) → cond b 0 (suc m) < suc n → cond b 0 (suc k) ≡ cond b 0 (suc m)
step true m n k f h = refl
step false m n k f h = ap suc (f (omega arith))

-- what is in a list has its place there
by_place : (xs : List ℕ) (u : ℕ) → place nat_eq u xs < length xs → number_by xs u ≡ place nat_eq u xs
by_place [] u h = absurd (omega arith)
by_place (x ∷ xs) u h = step (nat_eq x u) (place nat_eq u xs) (length xs) (number_by xs u) (by_place xs u) h

pub place-number : (xs : List ℕ) (u p : ℕ) → IsAt nat_eq u xs p → place_of u xs ≡ number_by xs u
place-number xs u p h = place_of_is u xs ∙ sym (by_place xs u (rw h.here h.within))

renumbered : (w : Writing) (t : TypeExpression) (p : ℕ) → IsPlaced w t p
    → apply (numbering w) t ≡ apply (renaming (numbers_by w.unknowns w.classifiers)) t
renumbered w int_ty p h = refl
renumbered w bool_ty p h = refl
renumbered w (unknown u) p h = ap unknown (place-number w.unknowns u h.0 h.1)
renumbered w (pair_ty s t) p h = rw (renumbered w s h.0 h.2, renumbered w t h.1 h.3) refl
renumbered w (function_ty s t) p h = rw (renumbered w s h.0 h.2, renumbered w t h.1 h.3) refl
renumbered w (code_ty c t) p h = rw (place-number w.classifiers c h.0 h.2, renumbered w t h.1 h.3) refl
renumbered w (closed_ty t) p h = rw (renumbered w t h.0 h.1) refl

-- so the line at the place of a written type names it with new numbers
pub named-by_place : (t : TypeExpression) (p : ℕ) (w : Writing) → AreTyped w → IsWritten t p w
    → slice_get (types_named w.lines) p ≡ Some (apply (renaming (numbers_by w.unknowns w.classifiers)) t)
named-by_place t p w y h =
    name_written t p w y h ∙ ap (λ z. Some z) (renumbered w t p (placed_written t p w h))
