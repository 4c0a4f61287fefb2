-- Modules that kernels of a text may have.
use Rattle.std.proofs.Common.{◌≡◌, ℕ, List, Bool, true, false, Option, Some, Result, Ok, Err, sym, subst}
use Rattle.std.specs.Prelude.{MatchBool, MatchOption, IfOk}
use Rattle.std.specs.Arc.{arc_value}
use Rattle.std.specs.declared.sync.Arc.{Arc}
use Rattle.mw_term.specs.Terms.{KernelType}
use Rattle.mw_key.proofs.FoundTexts.{one_text}
use Rattle.mw_meaning.specs.Shapes.{HasShape}
use Rattle.mw_wasm.specs.BinaryModules.{Spells}
use Rattle.mw_wasm.specs.declared.modules.Module.{Module}
use Rattle.mw_wasm.specs.Syntax.{PureModule}
use Rattle.mw_wasm.specs.Views.{module_of}
use Rattle.mw_wasm.proofs.FormatModules.{one_module}
use Rattle.mw_store.specs.Records.{HasModule}
use Rattle.mw_store.specs.Loads.{Loaded, IsLoaded}
use Rattle.mw_store.specs.Whole.{IsTyped, NoText, IsSound, HasSoundModule, NoModule, HasModuleOf, NoModuleOf}
use Rattle.mw_store.specs.Whole.{IsKernelModule, HasKernelModule, NoKernelModule}

one_type : (text : List ℕ) (k l : KernelType) → IsTyped text k → IsTyped text l → k ≡ l
one_type text k l h g = (one_text text h.0 g.0 h.1 g.1 k l h.2 g.2).2

-- what is no text is no kernel's
pub none_typed : (text bytes : List ℕ) → NoText text → NoKernelModule text bytes
none_typed text bytes none = λ m has. none has.1.0 has.1.1 has.0 has.1.2

shaped : (bytes : List ℕ) (k : KernelType) (m : PureModule) → IsSound bytes m → HasShape m k → HasModule bytes k m
shaped bytes k m sound shape =
    record { spelled = sound.spelled; profile = sound.profile; valid = sound.valid; shape = shape }

-- without the shape the bytes spell no kernel's module, since they spell one module alone
unshaped : (bytes : List ℕ) (k : KernelType) (m : PureModule) → IsSound bytes m → (HasShape m k → ⊥)
    → NoModuleOf bytes k
unshaped bytes k m sound misses = λ n has. misses
    (subst (λ x. HasShape x k) (one_module bytes n m has.spelled sound.spelled) has.shape)

pub where_sound : (bytes : List ℕ) (k : KernelType) (m : PureModule) (has : Bool) → IsSound bytes m
    → MatchBool has (HasShape m k) (HasShape m k → ⊥) → MatchBool has (HasModuleOf bytes k) (NoModuleOf bytes k)
where_sound bytes k m true sound shape = (m, shaped bytes k m sound shape)
where_sound bytes k m false sound misses = unshaped bytes k m sound misses

-- of the text's type the module is the kernel's
typed_found : (text bytes : List ℕ) (k : KernelType) (has : Bool) → IsTyped text k
    → MatchBool has (HasModuleOf bytes k) (NoModuleOf bytes k)
    → MatchBool has (HasKernelModule text bytes) (NoKernelModule text bytes)
typed_found text bytes k true typed has = (has.0, (k, typed, has.1))
typed_found text bytes k false typed none = λ m has. none m
    (subst (λ t. HasModule bytes t m) (one_type text has.0 k has.1 typed) has.2)

pub typed_in : {E : Type 0} (text bytes : List ℕ) (k : KernelType) (has : Result Bool E) → IsTyped text k
    → IfOk has (λ b. MatchBool b (HasModuleOf bytes k) (NoModuleOf bytes k))
    → IfOk has (λ b. MatchBool b (HasKernelModule text bytes) (NoKernelModule text bytes))
typed_in text bytes k (Ok b) typed h = typed_found text bytes k b typed h
typed_in text bytes k (Err e) typed h = tt

-- what is decoded of bytes is spelled by them, and so by the same bytes elsewhere
pub spelled_by : (bytes own : List ℕ) (found : Option Module) (valid wasm : Module)
    → MatchOption found (NoModule bytes) (λ v. IsSound bytes (module_of v)) → found ≡ Some valid → bytes ≡ own
    → wasm ≡ valid → Spells own (module_of wasm)
spelled_by bytes own found valid wasm sound is same module_is =
    let here = subst (λ o. MatchOption o (NoModule bytes) (λ v. IsSound bytes (module_of v))) is sound in
    subst (λ bs. Spells bs (module_of wasm)) same (subst (λ w. Spells bytes (module_of w)) (sym module_is) here.spelled)

-- a module that the bytes of a loaded record spell is its kernel's
kernel_module : (l : Loaded) (m : PureModule) → IsLoaded l → Spells l.bytes m → IsKernelModule l.text l.bytes m
kernel_module l m is spelled =
    let w = is.whole in (
      w.kind,
      (w.version, w.code, w.is_text),
      subst (λ x. HasModule l.bytes w.kind x) (one_module l.bytes w.wasm m w.has_module.spelled spelled) w.has_module,
    )

pub kernel_module_in : {E Z : Type 0} (l : Loaded) (found : Result (Arc Module Z) E) → IsLoaded l
    → IfOk found (λ m. Spells l.bytes (module_of (arc_value m)))
    → IfOk found (λ m. IsKernelModule l.text l.bytes (module_of (arc_value m)))
kernel_module_in l (Ok m) is h = kernel_module l (module_of (arc_value m)) is h
kernel_module_in l (Err e) is h = tt

-- and they do spell one
pub sound_module : (l : Loaded) → IsLoaded l → HasSoundModule l.bytes
sound_module l is =
    let has = is.whole.has_module in
    (is.whole.wasm, record { spelled = has.spelled; profile = has.profile; valid = has.valid })
