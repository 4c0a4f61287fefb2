use Rattle.std.proofs.Common.{true, false, refl, sym, ◌∙◌}
use Rattle.mw_meaning.proofs.Shapes.{instance_fits}
use Rattle.mw_meaning.proofs.shape.segments_fit.Goals as goal

pub returns-then-all_elements_fit : goal.returns-then-all_elements_fit
returns-then-all_elements_fit c =
    instance_fits c.args.wasm.now c.table_size.result c.memory_size.result _ _ true c.all_segments_fit.result
    c.table_size.ensures c.memory_size.ensures c.as_slice-elements.ensures c.as_slice-segments.ensures
    (sym c.if-all_elements_fit.true ∙ c.all_elements_fit.ensures) c.all_segments_fit.ensures

pub returns-else-all_elements_fit : goal.returns-else-all_elements_fit
returns-else-all_elements_fit c = c.if-all_elements_fit.false ∙
    instance_fits c.args.wasm.now c.table_size.result _ _ c.args.wasm.now.segments false _
    c.table_size.ensures refl c.as_slice-elements.ensures refl
    (sym c.if-all_elements_fit.false ∙ c.all_elements_fit.ensures) refl
