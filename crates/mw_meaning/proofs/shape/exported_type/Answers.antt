use Rattle.std.proofs.Common.{map, refl, sym, ◌∙◌, ap}
use Rattle.std.specs.Prelude.{slice_get}
use Rattle.std.proofs.lemmas.Option.{slice_get_read}
use Rattle.mw_wasm.specs.Instances.{exported_among}
use Rattle.mw_wasm.specs.Views.{export_of}
use Rattle.mw_meaning.proofs.Shapes.{exports-read}
use Rattle.mw_meaning.proofs.shape.exported_type.Goals as goal

pub returns : goal.returns
returns c =
    let name = c.args.name.now in
    let i = c.in_ok-index.index in
    let g = c.in_ok-function.function.now in
    let exports = ap (λ es. exported_among name (map export_of es)) (sym c.as_slice.ensures) in
    let found = c.in_ok-function.ensures.lookup in
    let read = slice_get_read c.as_slice-2.result.now _ i g refl found.3.0 found.1 in
    exports-read c.args.wasm.now name i g
    (exports ∙ (sym c.function_index.ensures ∙ c.in_ok-index.was))
    (ap (λ fs. slice_get fs i) (sym c.as_slice-2.ensures) ∙ read)
    c.as_slice-3.result.now c.get-2.result c.as_slice-3.ensures c.get-2.ensures.lookup
