-- Types are named by one list of lines at most.
use Rattle.std.proofs.Common.{◌≡◌, List, get_or, sym, ◌∙◌, arith}
use Rattle.std.proofs.lemmas.List.{same_lists}
use Rattle.std.proofs.lemmas.Option.{slice_get-get_or}
use Rattle.mw_types.specs.Types.{TypeExpression, int_ty}
use Rattle.mw_lines.specs.TypeLines.{TypeLine, AreTypeLines}
use Rattle.mw_lines.proofs.OneLine.{has_one_line}

pub one_table : (xs ys : List TypeLine) (ts : List TypeExpression) → AreTypeLines xs ts → AreTypeLines ys ts → xs ≡ ys
one_table xs ys ts a b = same_lists xs ys (sym a.count ∙ b.count) (λ k d h.
    let x = slice_get-get_or xs k d h in
    let y = slice_get-get_or ys k d (omega (arith, a.count, b.count)) in
    let t = slice_get-get_or ts k int_ty (omega (arith, a.count)) in
    has_one_line xs ts a (get_or ts k int_ty) k k (get_or xs k d) (get_or ys k d)
    (a.each k (get_or xs k d) (get_or ts k int_ty) x t) (b.each k (get_or ys k d) (get_or ts k int_ty) y t))
