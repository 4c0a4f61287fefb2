-- Faults of runs and calls.
use Rattle.std.proofs.Common.{◌≡◌, ℕ, Option, Some, None, Err, refl, sym, subst}
use Rattle.mw_term.specs.Terms.{Value, KernelType, to}
use Rattle.mw_meaning.specs.KernelMeaning.{Ended}
use Rattle.mw_meaning.specs.Shapes.{IsStray}
use Rattle.mw_meaning.specs.StagedMeaning.{Answer, Runs}
use Rattle.mw_wasm.specs.declared.modules.Module.{Module}
use Rattle.mw_wasm.specs.Views.{module_of}
use Rattle.mw_machine.specs.KernelCalls.{IsReplyOf}
use Rattle.mw_kernel.specs.declared.fault.RunFault.{RunFault}
use Rattle.mw_kernel.specs.declared.fault.RunFault.TheVariants as fault
use Rattle.mw_kernel.specs.KernelMeanings.{IsStartMeant, IsCallMeant}
use Rattle.mw_kernel.specs.RunningStates.{RunningState}
use Rattle.mw_kernel.specs.Straying.{IsInPlay, BadStartIsStray, BadCallIsStray}
use Rattle.mw_cached.specs.declared.fault.FunctionFault.{FunctionFault}
use Rattle.mw_cached.specs.declared.fault.FunctionFault.TheVariants as faults
use Rattle.mw_cached.specs.Answers.{told, BadIsStray, MayFault, IsFaultOf}

-- a fault over an emission is not Bad
pub may_fault : (f : RunFault) (loaded : Option ℕ) → (loaded ≡ None → f ≡ fault.Bad → ⊥) → MayFault f loaded
may_fault (fault.Memory e) loaded h = tt
may_fault fault.Bad None h = absurd (h refl refl)
may_fault fault.Bad (Some n) h = refl

pub call_is_not_bad : (f : RunFault) (a : Ended) → IsCallMeant (Err f) a → f ≡ fault.Bad → ⊥
call_is_not_bad fault.Bad a h e = h
call_is_not_bad (fault.Memory d) a h e = absurd (cc)

pub start_is_not_bad : (f : RunFault) (k : KernelType) (a : Ended) → IsStartMeant (Err f) k a → f ≡ fault.Bad → ⊥
start_is_not_bad fault.Bad k a h e = h
start_is_not_bad (fault.Memory d) k a h e = absurd (cc)

-- a fault that is not Bad answers as anything
pub fault_answers : (own : FunctionFault) (f : RunFault) (loaded : Option ℕ) (a : Answer Runs Value)
    → IsFaultOf own f loaded → (f ≡ fault.Bad → ⊥) → IsReplyOf (told (Err own)) a
fault_answers (faults.Memory e) f loaded a is h = tt
fault_answers (faults.Bad n) fault.Bad loaded a is h = absurd (h refl)
fault_answers (faults.Bad n) (fault.Memory e) loaded a is h = absurd is

-- and one that is Bad comes of a stray module
pub start_is_stray : (own : FunctionFault) (f : RunFault) (loaded : Option ℕ) (wasm : Module) (k : KernelType)
    → IsFaultOf own f loaded → BadStartIsStray (Err f) wasm k → BadIsStray (Err own) wasm loaded k
start_is_stray (faults.Memory e) f loaded wasm k is stray = tt
start_is_stray (faults.Bad n) fault.Bad loaded wasm k is stray = (is, stray)
start_is_stray (faults.Bad n) (fault.Memory e) loaded wasm k is stray = absurd is

pub call_is_stray : (own : FunctionFault) (f : RunFault) (loaded : Option ℕ) (r : RunningState) (k : KernelType)
    → k ≡ to r.argument r.result → IsInPlay r → IsFaultOf own f loaded → BadCallIsStray (Err f) r
    → BadIsStray (Err own) r.wasm loaded k
call_is_stray (faults.Memory e) f loaded r k type plays is stray = tt
call_is_stray (faults.Bad n) fault.Bad loaded r k type plays is stray =
    (is, subst (λ k. IsStray (module_of r.wasm) k) (sym type) (stray plays))
call_is_stray (faults.Bad n) (fault.Memory e) loaded r k type plays is stray = absurd is
