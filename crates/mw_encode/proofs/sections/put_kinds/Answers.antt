use Rattle.std.proofs.Common.{refl}
use Rattle.mw_wasm.specs.BinaryModules.{function_kind}
use Rattle.mw_wasm.specs.Views.{function_of}
use Rattle.mw_encode.specs.Encoding.{function_kind_bytes}
use Rattle.mw_encode.proofs.BestModules.{best_function_kind}
use Rattle.mw_encode.proofs.AppendedBytes.{no_section, items_spelled, content_is, content_fits, section_put}
use Rattle.mw_encode.proofs.sections.put_kinds.Goals as goal

pub returns-then-len-eq0 : goal.returns-then-len-eq0
returns-then-len-eq0 c = no_section 3 function_kind function_kind_bytes function_of c.args.list.now c.len.result
    c.len.ensures c.args.out.now.items c.if-len-eq0.true

pub put_all_kinds-requires : goal.put_all_kinds-requires
put_all_kinds-requires c = items_spelled 3 function_kind function_kind_bytes function_of c.args.list.now c.len.result
    c.len.ensures c.args.list.now c.if-len-eq0.false refl c.requires

pub put_section-requires : goal.put_section-requires
put_section-requires c = content_fits 3 function_kind function_kind_bytes function_of c.args.list.now c.len.result
    c.len.ensures best_function_kind c.as_slice.result.now c.if-len-eq0.false
    (content_is 3 function_kind function_kind_bytes function_of c.args.list.now c.len.result c.len.ensures
    c.args.list.now c.new-content.result.items c.put_all_kinds.new.out.items c.as_slice.result.now refl
    c.new-content.ensures.items c.in_ok-put_all_kinds.ensures c.as_slice.ensures.value) c.requires

pub returns : goal.returns
returns c = section_put 3 function_kind function_kind_bytes function_of c.args.list.now c.len.result c.len.ensures
    c.put_section.result c.put_section.new.out.items c.args.out.now.items c.as_slice.result.now c.if-len-eq0.false
    (content_is 3 function_kind function_kind_bytes function_of c.args.list.now c.len.result c.len.ensures
    c.args.list.now c.new-content.result.items c.put_all_kinds.new.out.items c.as_slice.result.now refl
    c.new-content.ensures.items c.in_ok-put_all_kinds.ensures c.as_slice.ensures.value) c.put_section.ensures
