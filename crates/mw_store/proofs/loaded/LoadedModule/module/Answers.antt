use Rattle.std.proofs.Common.{◌≡◌, sym, subst}
use Rattle.std.specs.Arc.{arc_value}
use Rattle.std.proofs.lemmas.Result.{IfOk-weaker}
use Rattle.mw_wasm.specs.BinaryModules.{Spells}
use Rattle.mw_wasm.specs.Views.{module_of}
use Rattle.mw_store.proofs.loaded.LoadedModule.module.Goals as goal

pub returns-in-Some-spelled_by : goal.returns-in-Some-spelled_by
returns-in-Some-spelled_by c =
    let bytes = c.args.self.now.bytes.items in
    let wasm = arc_value c.in-Some-spelled_by.module.now in
    let here = subst (λ bs. Spells bs (module_of wasm)) c.as_slice.ensures.value c.in-Some-spelled_by.ensures.spells in
    IfOk-weaker c.try_clone.result (λ m. arc_value m ≡ wasm) (λ m. Spells bytes (module_of (arc_value m)))
    (λ m same. subst (λ w. Spells bytes (module_of w)) (sym same) here) c.try_clone.ensures
