use Rattle.std.proofs.Common.{refl, false, [], ◌++◌, ◌∷◌}
use Rattle.std.specs.Prelude.{codes}
use Rattle.mw_wasm.specs.Views.{code_of}
use Rattle.mw_wat.specs.Lexemes.{word, octets, offset, code}
use Rattle.mw_wat.proofs.TextParts.{within_closed, both_closed, then_spaced}
use Rattle.mw_wat.proofs.FieldTexts.{field_line}
use Rattle.mw_wat.proofs.fields.SegmentField.put.Goals as goal

pub returns : goal.returns
returns c =
    let start = offset (code_of c.args.self.now.offset) in
    let bytes = octets c.args.self.now.bytes ∷ [] in
    let closed = within_closed false (word (codes "offset") ∷ code (code_of c.args.self.now.offset)) in
    field_line c.put_end.result _ _ _ _ (codes "data") (start ++ bytes)
    (both_closed start bytes closed refl) c.in_ok-put_start.ensures
    (then_spaced _ _ _ start bytes closed c.in_ok-put_offset.ensures c.in_ok-put_octets.ensures)
    c.put_end.ensures
