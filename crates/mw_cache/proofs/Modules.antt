-- The module of a text is that of each code and type that have the text.
use Rattle.std.proofs.Common.{◌≡◌, List, ℕ, Some, Result, refl, sym, ◌∙◌, subst}
use Rattle.std.specs.Prelude.{slice_get, IfOk}
use Rattle.std.specs.Arc.{arc_value}
use Rattle.std.specs.declared.sync.Arc.{Arc}
use Rattle.std.proofs.lemmas.Result.{IfOk-weaker}
use Rattle.mw_term.specs.Terms.{Expression, KernelType}
use Rattle.mw_key.specs.CanonicalText.{IsTextOf}
use Rattle.mw_key.specs.declared.version.Version.{Version}
use Rattle.mw_key.specs.declared.version.Version.TheVariants.{Two}
use Rattle.mw_key.proofs.FoundTexts.{one_text}
use Rattle.mw_wasm.specs.BinaryModules.{Spells}
use Rattle.mw_wasm.specs.declared.modules.Module.{Module}
use Rattle.mw_wasm.specs.Syntax.{PureModule}
use Rattle.mw_wasm.specs.Views.{module_of}
use Rattle.mw_wasm.proofs.FormatModules.{one_module}
use Rattle.mw_meaning.specs.Shapes.{HasShape}
use Rattle.mw_meaning.specs.StandingFor.{StandsFor}
use Rattle.mw_store.specs.Loads.{Loaded as LoadedRecord, LoadState}
use Rattle.mw_store.specs.Whole.{IsKernelModule}
use Rattle.mw_compile.specs.Emission.{emission, IsEmissionOf}
use Rattle.mw_compile.specs.Entries.{Emitted, IsEntry}
use Rattle.mw_compile.proofs.EmittedEntries.{entry_is, each_emission, one_emission}
use Rattle.mw_cache.specs.declared.got.Got.{Got}
use Rattle.mw_cache.specs.declared.got.Got.TheVariants.{Loaded}
use Rattle.mw_cache.specs.Gots.{CacheState, IsRight, HasWasm, text_at}
use Rattle.mw_cache.proofs.LoadedTexts.{text_is}

-- it has the shape for each type that has the text
abbrev HasShapeOf : List ℕ → Module → Type 0
HasShapeOf t wasm = (v : Version) (c : Expression) (k : KernelType) → IsTextOf t v c k → HasShape (module_of wasm) k

-- it stands for each code that has the text, where the text is right
abbrev StandsForOf : LoadState → List ℕ → Module → Type 0
StandsForOf load t wasm = (c : Expression) (k : KernelType) → IsTextOf t Two c k → IsRight load t
    → StandsFor (module_of wasm) c k

-- the module of a record that was loaded
abbrev pub IsAt : {E Z : Type 0} → LoadState → ℕ → Result (Arc Module Z) E → Type 0
IsAt load at found = (l : LoadedRecord) × (slice_get load.records at ≡ Some l)
    × IfOk found (λ m. IsKernelModule l.text l.bytes (module_of (arc_value m)))

loaded_shape : (l : LoadedRecord) (m : PureModule) → IsKernelModule l.text l.bytes m → (v : Version) (c : Expression)
    (k : KernelType) → IsTextOf l.text v c k → HasShape m k
loaded_shape l m is v c k text =
    subst (λ t. HasShape m t) (one_text l.text is.1.0 v is.1.1 c is.0 k is.1.2 text).2 is.2.shape

-- where the bytes are the emission, the module is the emitted one
loaded_stands : (l : LoadedRecord) (m : PureModule) → IsKernelModule l.text l.bytes m
    → (c : Expression) (k : KernelType)
    → IsTextOf l.text Two c k → IsEmissionOf l.bytes l.text → StandsFor m c k
loaded_stands l m is c k text right =
    let bytes : l.bytes ≡ emission Two c k = one_emission l.text l.bytes (emission
    Two c k) right
    record { version = Two; code = c; kind = k; is_text = text; is_emission = refl } in
    let e = each_emission l.text Two c k text in
    let same = one_module (emission Two c k) m _ (subst (λ bs. Spells bs m) bytes is.2.spelled)
    e.spelled in
    subst (λ x. StandsFor x c k) (sym same) e.stands

module _ {E Z : Type 0} (found : Result (Arc Module Z) E) where
  pub wasm_at : (cache : CacheState) (got : Got) (at : ℕ) → got ≡ Loaded at → IsAt cache.load at found
      → IfOk found (λ m. HasWasm cache got (arc_value m))
  wasm_at cache got at is here =
      subst (λ g. IfOk found (λ m. HasWasm cache g (arc_value m))) (sym is)
      (IfOk-weaker found (λ m. IsKernelModule here.0.text here.0.bytes (module_of (arc_value m)))
      (λ m. HasWasm cache (Loaded at) (arc_value m)) (λ m has. (here.0, here.1, has.2.spelled)) here.2)

  pub shape_at : (load : LoadState) (at : ℕ) (t : List ℕ) → t ≡ text_at load at → IsAt load at found
      → IfOk found (λ m. HasShapeOf t (arc_value m))
  shape_at load at t is here =
      let l = here.0 in
      let same : t ≡ l.text = is ∙ text_is load at l here.1 in
      IfOk-weaker found (λ m. IsKernelModule l.text l.bytes (module_of (arc_value m)))
      (λ m. HasShapeOf t (arc_value m)) (λ m is v c k text. loaded_shape l (module_of (arc_value m)) is v c k
      (subst (λ x. IsTextOf x v c k) same text)) here.2

  pub stands_at : (load : LoadState) (at : ℕ) (t : List ℕ) → t ≡ text_at load at → IsAt load at found
      → IfOk found (λ m. StandsForOf load t (arc_value m))
  stands_at load at t is here =
      let l = here.0 in
      let same : t ≡ l.text = is ∙ text_is load at l here.1 in
      IfOk-weaker found (λ m. IsKernelModule l.text l.bytes (module_of (arc_value m)))
      (λ m. StandsForOf load t (arc_value m)) (λ m is c k text right. loaded_stands l (module_of (arc_value m)) is c k
      (subst (λ x. IsTextOf x Two c k) same text) (subst (λ x. IsEmissionOf l.bytes x) same (right at l here.1
      (sym same)))) here.2

-- and that of an entry
entry_shape : (e : Emitted) (t : List ℕ) (wasm : Module) → t ≡ e.text → wasm ≡ e.wasm → IsEntry e → HasShapeOf t wasm
entry_shape e t wasm same w is v c k text =
    subst (λ x. HasShape (module_of x) k) (sym w) (subst (λ x. HasShape (module_of e.wasm) x)
    (one_text e.text Two v is.code c is.kind k is.is_entry.is_text (subst
    (λ x. IsTextOf x v c k) same text)).2 is.is_entry.is.shape)

entry_stands : (e : Emitted) (t : List ℕ) (wasm : Module) → t ≡ e.text → wasm ≡ e.wasm → IsEntry e
    → (c : Expression) (k : KernelType) → IsTextOf t Two c k → StandsFor (module_of wasm) c k
entry_stands e t wasm same w is c k text =
    subst (λ x. StandsFor (module_of x) c k) (sym w) (entry_is e c k is (subst
    (λ x. IsTextOf x Two c k) same text)).is.stands

-- which is owned once more
module _ {E Z : Type 0} (found : Result (Arc Module Z) E) (e : Emitted) (given : Module)
    (same : IfOk found (λ m. arc_value m ≡ given)) where
  pub entry_shape_in : (t : List ℕ) → t ≡ e.text → given ≡ e.wasm → IsEntry e
      → IfOk found (λ m. HasShapeOf t (arc_value m))
  entry_shape_in t text is kept = IfOk-weaker found (λ m. arc_value m ≡ given) (λ m. HasShapeOf t (arc_value m))
      (λ m h. entry_shape e t (arc_value m) text (h ∙ is) kept) same

  pub entry_stands_in : (load : LoadState) (t : List ℕ) → t ≡ e.text → given ≡ e.wasm → IsEntry e
      → IfOk found (λ m. StandsForOf load t (arc_value m))
  entry_stands_in load t text is kept = IfOk-weaker found (λ m. arc_value m ≡ given)
      (λ m. StandsForOf load t (arc_value m))
      (λ m h c k typed right. entry_stands e t (arc_value m) text (h ∙ is) kept c k typed) same
