use Rattle.std.proofs.Common.{refl, ap, ◌∙◌, ◌++◌, ◌∷◌, []}
use Rattle.mw_encode.specs.Encoding.{value_type_bytes, vector_bytes}
use Rattle.mw_encode.proofs.AppendedBytes.{left_start, left_step, left_end}
use Rattle.mw_encode.proofs.parts.put_value_types.Goals as goal

pub loop-kind-init : goal.loop-kind-init
loop-kind-init c = left_start value_type_bytes c.as_slice-list.result.now c.args.types.now c.len.result
    c.args.out.now.items c.put_count.new.out.items c.in_ok-put_count.ensures c.len.ensures c.as_slice-list.ensures

pub loop-kind-preserved : goal.loop-kind-preserved
loop-kind-preserved c = left_step value_type_bytes c.as_slice-list.result.now c.loop-kind.kind-index _ _
    c.loop-kind.out.items c.put_byte.new.out.items _ c.loop-kind-test.true refl
    (c.in_ok-put_byte.ensures ∙ ap (λ byte. c.loop-kind.out.items ++ byte ∷ []) c.byte_of_type.ensures)
    c.loop-kind.invariant

pub returns : goal.returns
returns c = left_end value_type_bytes c.as_slice-list.result.now c.loop-kind.kind-index c.loop-kind.out.items _
    c.loop-kind-test.false c.loop-kind.invariant
    ∙ ap (λ items. c.args.out.now.items ++ vector_bytes value_type_bytes items) c.as_slice-list.ensures
