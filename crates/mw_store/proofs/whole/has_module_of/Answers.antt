use Rattle.std.proofs.Common.{subst}
use Rattle.std.specs.Prelude.{MatchOption, MatchBool}
use Rattle.mw_term.specs.Terms.{kernel_type_of}
use Rattle.mw_wasm.specs.Views.{module_of}
use Rattle.mw_meaning.specs.Shapes.{HasShape}
use Rattle.mw_store.specs.Whole.{IsSound, NoModule}
use Rattle.mw_store.proofs.ModuleShapes.{where_sound}
use Rattle.mw_store.proofs.whole.has_module_of.Goals as goal

pub returns-in-Some : goal.returns-in-Some
returns-in-Some c =
    let bytes = c.args.bytes.now in
    let kind = kernel_type_of c.args.kind.now in
    let sound = subst
    (λ o. MatchOption o (NoModule bytes) (λ valid. IsSound bytes (module_of valid))) c.in-Some.is
    c.in_ok-valid.ensures in
    let shaped = subst (λ m. MatchBool c.has_shape.result (HasShape (module_of m) kind)
    (HasShape (module_of m) kind → ⊥)) c.module.ensures.module c.has_shape.ensures in
    where_sound bytes kind (module_of c.in-Some.valid) c.has_shape.result sound shaped
