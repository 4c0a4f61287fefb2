-- What an instance keeps.
use Rattle.std.proofs.Common.{◌≡◌, ℕ, List, ap, sym, ◌∙◌, subst, Some, Option, Ok}
use Rattle.std.specs.Prelude.{slice_get}
use Rattle.mw_wasm.specs.declared.values.Value.{Value}
use Rattle.mw_wasm.specs.declared.modules.Module.{Module}
use Rattle.mw_wasm.specs.Instances.{exported}
use Rattle.mw_wasm.specs.StateTypes.{StoreIsTyped}
use Rattle.mw_wasm.specs.Views.{module_of}
use Rattle.mw_wasm.proofs.InstanceTypes.{instances_are_typed}
use Rattle.mw_validate.specs.Kept.{IsKept}
use Rattle.mw_exec.specs.declared.held.Contents.{Contents}
use Rattle.mw_exec.specs.Views.{store_of, IsHeld}
use Rattle.mw_exec.specs.InstanceStates.{state_of, IsReady}
use Rattle.mw_exec.specs.Fitting.{AllFit}
use Rattle.mw_exec.specs.Instancing.{CanInvoke, BeginsAs, first_store}
use Rattle.mw_exec.specs.Invoking.{CanRun}
use Rattle.mw_exec.proofs.Beginnings.{begins}

pub ready_again : (wasm : Module) (h : Contents) → IsKept wasm → IsHeld h → StoreIsTyped (module_of wasm) (store_of h)
    → IsReady (state_of wasm h)
ready_again wasm h kept held typed = record { kept = kept; bytes = held.bytes; pages = held.pages; typed = typed }

pub can_run : (wasm : Module) (name : List ℕ) (args : List Value) (f : ℕ) → CanInvoke wasm name args
    → exported (module_of wasm) name ≡ Some f → CanRun wasm f args
can_run wasm name args f can e = record {
  function = can.function;
  type = can.type;
  is_function = subst (λ k. slice_get wasm.funcs k ≡ Some can.function) (same can.there.is_exported e)
      can.there.is_function;
  is_type = can.there.is_type;
  fit = can.fit;
}
  where
    same : {o : Option ℕ} {a b : ℕ} → o ≡ Some a → o ≡ Some b → a ≡ b
    same p q = cc

pub begins_first : (a m : Module) (h : Contents) → m ≡ a → AllFit m → store_of h ≡ first_store (module_of m)
    → BeginsAs a (store_of h)
begins_first a m h e fit s = subst (λ w. BeginsAs w (store_of h)) e (begins m fit ∙ ap (λ st. Ok st) (sym s))

pub ready_first : (a : Module) (h : Contents) → IsKept a → IsHeld h → BeginsAs a (store_of h) → IsReady (state_of a h)
ready_first a h kept held b = ready_again a h kept held (instances_are_typed (module_of a) kept.valid (store_of h) b)
