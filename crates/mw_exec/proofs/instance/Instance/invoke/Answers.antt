use Rattle.std.proofs.Common.{sym, ap, ◌∙◌, subst}
use Rattle.mw_wasm.specs.Instances.{exported}
use Rattle.mw_wasm.specs.Views.{module_of}
use Rattle.mw_wasm.specs.StateTypes.{StoreIsTyped}
use Rattle.std.specs.Arc.{arc_value}
use Rattle.mw_validate.specs.Kept.{IsKept}
use Rattle.mw_exec.specs.Views.{store_of}
use Rattle.mw_exec.specs.InstanceStates.{InstanceState}
use Rattle.mw_exec.specs.Instancing.{CanInvoke}
use Rattle.mw_exec.proofs.InstanceRules.{can_run, ready_again}
use Rattle.mw_exec.proofs.instance.Instance.invoke.Goals as goal

pub invoke_function-requires-clause-can : goal.invoke_function-requires-clause-can
invoke_function-requires-clause-can c =
    let w = c.module-2.ensures.«module» ∙ (c.deref-2.ensures ∙ ap (λ (i : InstanceState). i.wasm) c.self.view_is) in
    let u = c.module.ensures.«module» ∙ (c.deref.ensures ∙ ap (λ (i : InstanceState). i.wasm) c.self.view_is) in
    can_run c.module-2.result.now c.args.name.now c.args.args.now c.in-Some.f
    (subst (λ m. CanInvoke m c.args.name.now c.args.args.now) (sym w) c.requires.can)
    (ap (λ m. exported (module_of m) c.args.name.now) (w ∙ sym u) ∙ (sym c.function_index.ensures ∙ c.in-Some.is))

pub invoke_function-requires-clause-valid : goal.invoke_function-requires-clause-valid
invoke_function-requires-clause-valid c = let kept = subst IsKept (sym c.module-2.ensures.«module»)
    c.module-2.ensures.valid in kept.valid

pub invoke_function-requires-clause-held : goal.invoke_function-requires-clause-held
invoke_function-requires-clause-held c = record { bytes = c.self.invariant.bytes; pages = c.self.invariant.pages }

pub invoke_function-requires-clause-typed : goal.invoke_function-requires-clause-typed
invoke_function-requires-clause-typed c = subst (λ m. StoreIsTyped (module_of m) (store_of c.self.inside.held))
    (sym (c.module-2.ensures.«module» ∙ c.deref-2.ensures)) c.self.invariant.typed

pub invariant_of-self : goal.invariant_of-self
invariant_of-self c = ready_again (arc_value c.self.inside.module) c.invoke_function.new.held c.self.invariant.kept
    c.invoke_function.ensures.held
    (subst (λ m. StoreIsTyped (module_of m) (store_of c.invoke_function.new.held))
    (c.module-2.ensures.«module» ∙ c.deref-2.ensures) c.invoke_function.ensures.typed)
