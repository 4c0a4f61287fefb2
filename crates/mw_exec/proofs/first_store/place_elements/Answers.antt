use Rattle.std.proofs.Common.{arith, length}
use Rattle.mw_exec.proofs.FirstStores.{element_inside, elements_more, at_most, placed_from}
use Rattle.mw_exec.proofs.first_store.place_elements.Goals as goal

pub place_functions-requires : goal.place_functions-requires
place_functions-requires c = at_most _ _ _ _ _ _ c.offset_of-at.ensures c.as_slice.ensures c.loop-element.invariant.long
    (element_inside c.args.elements.now (length c.args.table.now.items) c.loop-element.element-index
    c.element-item.result c.requires.fit (omega arith) c.element-item.is)

pub loop-element-preserved : goal.loop-element-preserved
loop-element-preserved c = elements_more c.loop-element.element-index c.args.elements.now c.element-item.result
    c.args.table.now.items c.loop-element.table.items c.place_functions.new.table.items c.loop-element.invariant
    (omega arith) c.element-item.is
    (element_inside c.args.elements.now (length c.args.table.now.items) c.loop-element.element-index
    c.element-item.result c.requires.fit (omega arith) c.element-item.is)
    (placed_from _ _ _ _ _ _ c.offset_of-at.ensures c.as_slice.ensures c.place_functions.ensures)
