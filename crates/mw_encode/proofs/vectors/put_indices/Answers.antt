use Rattle.std.proofs.Common.{refl, ap, ◌∙◌, ◌++◌}
use Rattle.mw_encode.specs.Encoding.{number, vector_bytes}
use Rattle.mw_encode.proofs.AppendedBytes.{left_start, left_step, left_end}
use Rattle.mw_encode.proofs.vectors.put_indices.Goals as goal

pub loop-index-init : goal.loop-index-init
loop-index-init c = left_start number c.as_slice-list.result.now c.args.indices.now c.len.result c.args.out.now.items
    c.put_count.new.out.items c.in_ok-put_count.ensures c.len.ensures c.as_slice-list.ensures

pub loop-index-preserved : goal.loop-index-preserved
loop-index-preserved c = left_step number c.as_slice-list.result.now c.loop-index.index-index _ _ c.loop-index.out.items
    c.put_u32.new.out.items _ c.loop-index-test.true refl c.in_ok-put_u32.ensures.exact c.loop-index.invariant

pub returns : goal.returns
returns c = left_end number c.as_slice-list.result.now c.loop-index.index-index c.loop-index.out.items _
    c.loop-index-test.false c.loop-index.invariant ∙ ap (λ items. c.args.out.now.items ++ vector_bytes number items)
    c.as_slice-list.ensures
