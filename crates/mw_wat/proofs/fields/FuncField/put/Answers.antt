use Rattle.std.proofs.Common.{refl, [], ◌∷◌, ◌++◌}
use Rattle.std.specs.Prelude.{codes}
use Rattle.mw_wasm.specs.Views.{code_of}
use Rattle.mw_wat.specs.Lexemes.{word, number, within, types_behind, code}
use Rattle.mw_wat.proofs.TextParts.{types_closed, both_closed, then_spaced}
use Rattle.mw_wat.proofs.InstructionTexts.{code_closed}
use Rattle.mw_wat.proofs.FieldTexts.{field_line}
use Rattle.mw_wat.proofs.fields.FuncField.put.Goals as goal

pub returns : goal.returns
returns c =
    let kind = within (word (codes "type") ∷ number c.args.self.now.kind ∷ []) in
    let locals = types_behind (codes "local") c.args.self.now.locals in
    let body = code (code_of c.args.self.now.body) in
    let closed_locals = types_closed (codes "local") c.args.self.now.locals in
    field_line c.put_end.result _ _ _ _ (codes "func") (kind ++ locals ++ body)
    (both_closed locals body closed_locals (code_closed (code_of c.args.self.now.body))) c.in_ok-put_start.ensures
    (then_spaced _ _ _ (kind ++ locals) body closed_locals
    (then_spaced _ _ _ kind locals refl c.in_ok-put_type_index.ensures c.in_ok-put_types.ensures)
    c.in_ok-put_code.ensures)
    c.put_end.ensures
