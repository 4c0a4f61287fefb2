use Rattle.std.proofs.Common.{refl, [], ◌∷◌, map, arith}
use Rattle.mw_wat.specs.Names.{type_name}
use Rattle.mw_wat.specs.Lexemes.{left, right, word}
use Rattle.mw_wat.proofs.TextParts.{each_closed, then_spaced, last_spaced, as_spaced}
use Rattle.mw_wat.proofs.FieldTexts.{types_some}
use Rattle.mw_wat.proofs.fields.put_types.Goals as goal

pub returns : goal.returns
returns c =
    let names = map (λ t. word (type_name t)) c.args.types.now in
    let closed = each_closed (λ t. word (type_name t)) (λ _. refl) c.args.types.now in
    as_spaced c.put_closing.result _ _ _ _
    (types_some c.args.text.now c.args.types.now (omega (arith, c.if-len-eq0.false, c.len.ensures)))
    (last_spaced c.put_closing.result _ _ _ (left ∷ word c.args.text.now ∷ names) (right ∷ []) closed
    (then_spaced _ _ _
    (left ∷ word c.args.text.now ∷ []) names refl c.in_ok-put_opening.ensures c.in_ok-put_names_of_types.ensures)
    c.put_closing.ensures)
