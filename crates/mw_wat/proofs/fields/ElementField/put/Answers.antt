use Rattle.std.proofs.Common.{refl, false, map, ◌++◌, ◌∷◌}
use Rattle.std.specs.Prelude.{codes}
use Rattle.mw_wasm.specs.Views.{code_of}
use Rattle.mw_wat.specs.Lexemes.{word, number, offset, code}
use Rattle.mw_wat.proofs.TextParts.{within_closed, each_closed, both_closed, then_spaced}
use Rattle.mw_wat.proofs.FieldTexts.{field_line}
use Rattle.mw_wat.proofs.fields.ElementField.put.Goals as goal

pub returns : goal.returns
returns c =
    let start = offset (code_of c.args.self.now.offset) in
    let funcs = map number c.args.self.now.funcs in
    let closed = within_closed false (word (codes "offset") ∷ code (code_of c.args.self.now.offset)) in
    field_line c.put_end.result _ _ _ _ (codes "elem") (start ++ funcs)
    (both_closed start funcs closed (each_closed number (λ _. refl) c.args.self.now.funcs)) c.in_ok-put_start.ensures
    (then_spaced _ _ _ start funcs closed c.in_ok-put_offset.ensures c.in_ok-put_numbers.ensures)
    c.put_end.ensures
