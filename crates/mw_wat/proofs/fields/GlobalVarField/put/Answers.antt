use Rattle.std.proofs.Common.{◌++◌}
use Rattle.std.specs.Prelude.{codes}
use Rattle.mw_wasm.specs.Views.{code_of}
use Rattle.mw_wat.specs.Lexemes.{global_type, code}
use Rattle.mw_wat.proofs.TextParts.{both_closed, then_spaced}
use Rattle.mw_wat.proofs.InstructionTexts.{code_closed}
use Rattle.mw_wat.proofs.FieldTexts.{field_line, global_type_closed}
use Rattle.mw_wat.proofs.fields.GlobalVarField.put.Goals as goal

pub returns : goal.returns
returns c =
    let kind = global_type c.args.self.now.variable c.args.self.now.kind in
    let init = code (code_of c.args.self.now.init) in
    let closed = global_type_closed c.args.self.now.variable c.args.self.now.kind in
    field_line c.put_end.result _ _ _ _ (codes "global") (kind ++ init)
    (both_closed kind init closed (code_closed (code_of c.args.self.now.init))) c.in_ok-put_start.ensures
    (then_spaced _ _ _ kind init closed c.in_ok-put_global_type.ensures c.in_ok-put_code.ensures)
    c.put_end.ensures
