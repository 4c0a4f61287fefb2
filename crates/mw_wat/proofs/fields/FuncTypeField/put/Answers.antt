use Rattle.std.proofs.Common.{refl, false, [], ◌∷◌, ◌++◌}
use Rattle.std.specs.Prelude.{codes}
use Rattle.mw_wat.specs.Lexemes.{left, right, word, within, types_behind}
use Rattle.mw_wat.proofs.TextParts.{within_closed, types_closed, both_closed, then_spaced}
use Rattle.mw_wat.proofs.FieldTexts.{field_line}
use Rattle.mw_wat.proofs.fields.FuncTypeField.put.Goals as goal

pub returns : goal.returns
returns c =
    let params = types_behind (codes "param") c.args.self.now.params in
    let results = types_behind (codes "result") c.args.self.now.results in
    let closed_params = types_closed (codes "param") c.args.self.now.params in
    let closed = both_closed params results closed_params (types_closed (codes "result") c.args.self.now.results) in
    let first = left ∷ word (codes "func") ∷ [] in
    field_line c.put_end.result _ _ _ _ (codes "type") (within (word (codes "func") ∷ params ++ results))
    (within_closed false (word (codes "func") ∷ params ++ results)) c.in_ok-put_start.ensures
    (then_spaced _ _ _ (first ++ params ++ results) (right ∷ []) closed
    (then_spaced _ _ _ (first ++ params) results closed_params
    (then_spaced _ _ _ first params refl c.in_ok-put_opening.ensures c.in_ok-put_types.ensures)
    c.in_ok-put_types-2.ensures) c.in_ok-put_closing.ensures)
    c.put_end.ensures
