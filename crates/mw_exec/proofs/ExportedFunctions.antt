-- What a valid module exports is there.
use Rattle.std.proofs.Common.{◌≡◌, ◌<◌, ℕ, Bool, true, false, List, [], ◌∷◌, length, map, drop, refl, ◌∙◌, subst}
use Rattle.std.proofs.Common.{Option, Some}
use Rattle.std.specs.Prelude.{slice_get, nat_eq}
use Rattle.std.specs.Cmp.Lexicographic.{pointwise}
use Rattle.std.specs.List.{AllByRecursion}
use Rattle.std.proofs.lemmas.List.{length-map}
use Rattle.std.proofs.lemmas.Option.{slice_get-map, slice_get_within}
use Rattle.mw_wasm.specs.declared.modules.Exported.{Exported}
use Rattle.mw_wasm.specs.declared.modules.Exported.TheVariants.{Func, Table, Memory, Global}
use Rattle.mw_wasm.specs.declared.modules.Func.{Func as WasmFunc}
use Rattle.mw_wasm.specs.declared.modules.Module.{Module}
use Rattle.mw_wasm.specs.Syntax.{Exporting, PureModule}
use Rattle.mw_wasm.specs.Instances.{function_or, exported_among, exported}
use Rattle.mw_wasm.specs.Validity.{IsThere, IsValidFunction, IsValid}
use Rattle.mw_wasm.specs.declared.modules.Export.{Export}
use Rattle.mw_wasm.specs.Views.{module_of, function_of, export_of}
use Rattle.mw_wasm.proofs.ActTypes.{all_at}

there_or : (m : PureModule) (b : Bool) (w : Exported) (other : Option ℕ) (f : ℕ) → IsThere m w
    → (other ≡ Some f → f < length m.funcs) → function_or b w other ≡ Some f → f < length m.funcs
there_or m true (Func g) other f h go e = subst (λ k. k < length m.funcs) (same e) h
  where
    same : Some g ≡ Some f → g ≡ f
    same e = cc
there_or m true (Table x) other f h go e = go e
there_or m true (Memory x) other f h go e = go e
there_or m true (Global x) other f h go e = go e
there_or m false w other f h go e = go e

there_among : (m : PureModule) (es : List Exporting) (name : List ℕ) (f : ℕ)
    → AllByRecursion (λ (e : Exporting). IsThere m e.what) es → exported_among name es ≡ Some f → f < length m.funcs
there_among m [] name f all e = absurd (cc)
there_among m (x ∷ es) name f all e = there_or m (pointwise nat_eq x.name name) x.what (exported_among name es) f all.0
    (λ h. there_among m es name f all.1 h) e

-- an exported function is in range
pub function_in_range : (wasm : Module) (name : List ℕ) (f : ℕ) → IsValid (module_of wasm)
    → exported (module_of wasm) name ≡ Some f → f < length wasm.funcs
function_in_range wasm name f valid e = subst (λ k. f < k) (length-map wasm.funcs function_of)
    (there_among (module_of wasm) (module_of wasm).exports name f valid.exports e)

-- the function of an index, as pure data
pub function_there : (wasm : Module) (i : ℕ) (g : WasmFunc) → slice_get wasm.funcs i ≡ Some g
    → slice_get (module_of wasm).funcs i ≡ Some (function_of g)
function_there wasm i g e = slice_get-map function_of wasm.funcs i ∙ rw e refl

-- it is valid, so its type is in range
pub valid_there : (wasm : Module) (i : ℕ) (g : WasmFunc) → IsValid (module_of wasm) → slice_get wasm.funcs i ≡ Some g
    → IsValidFunction (module_of wasm) (function_of g)
valid_there wasm i g valid e = all_at (IsValidFunction (module_of wasm)) (module_of wasm).funcs i (function_of g)
    valid.funcs (function_there wasm i g e)

pub kind_in_range : (wasm : Module) (i : ℕ) (g : WasmFunc) → IsValid (module_of wasm) → slice_get wasm.funcs i ≡ Some g
    → g.kind < length wasm.types
kind_in_range wasm i g valid e = let v = valid_there wasm i g valid e in slice_get_within wasm.types g.kind v.0 v.1

-- the exports before a place give no function under the name
pub record Seeking (name : List ℕ) (i : ℕ) (es : List Export) : Type 0 where
  pub from : exported_among name (map export_of es) ≡ exported_among name (map export_of (drop i es))
