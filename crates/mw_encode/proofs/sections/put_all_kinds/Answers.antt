use Rattle.std.proofs.Common.{ap, ◌∙◌, ◌++◌, map}
use Rattle.mw_wasm.specs.BinaryModules.{function_kind}
use Rattle.mw_wasm.specs.Views.{function_of}
use Rattle.mw_encode.specs.Encoding.{number, vector_bytes, function_kind_bytes}
use Rattle.mw_encode.proofs.Pieces.{viewed_count, viewed_start, rest_step, rest_end}
use Rattle.mw_encode.proofs.sections.put_all_kinds.Goals as goal

pub put_count-requires : goal.put_count-requires
put_count-requires c = rw c.len.ensures (viewed_count function_kind function_of _ c.requires)

pub loop-one-init : goal.loop-one-init
loop-one-init c = rw c.as_slice-items.ensures
    (viewed_start function_kind function_kind_bytes function_of _ _ _ c.requires
    (c.in_ok-put_count.ensures ∙ ap (λ n. c.args.out.now.items ++ number n) c.len.ensures))

pub loop-one-preserved : goal.loop-one-preserved
loop-one-preserved c = rest_step (λ x. function_kind (function_of x)) (λ x. function_kind_bytes (function_of x))
    c.as_slice-items.result.now c.loop-one.one-index c.one-item.result c.loop-one.out.items c.put_u32.new.out.items _
    c.loop-one-test.true c.one-item.is c.in_ok-put_u32.ensures.exact c.loop-one.invariant

pub returns : goal.returns
returns c = rest_end (λ x. function_kind (function_of x)) (λ x. function_kind_bytes (function_of x))
    c.as_slice-items.result.now c.loop-one.one-index c.loop-one.out.items _ c.loop-one-test.false c.loop-one.invariant
    ∙ ap (λ items. c.args.out.now.items ++ vector_bytes function_kind_bytes (map function_of items))
    c.as_slice-items.ensures
