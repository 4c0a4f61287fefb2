-- The module that is put together is the linked one.
use Rattle.std.proofs.Common.{◌≡◌, ℕ, List, ◌∷◌, ◌++◌, length, refl, ap, ◌∙◌, sym, map, Result, Ok, Err}
use Rattle.std.specs.Prelude.{IfOk}
use Rattle.std.proofs.lemmas.List.{length-map, map-append}
use Rattle.mw_wasm.specs.declared.modules.Func.{Func}
use Rattle.mw_wasm.specs.declared.modules.Export.{Export}
use Rattle.mw_wasm.specs.declared.modules.FuncType.{FuncType}
use Rattle.mw_wasm.specs.Views.{function_of, export_of}
use Rattle.mw_meaning.specs.Shapes.{init_type}
use Rattle.mw_key.specs.declared.version.Version.TheVariants.{Two}
use Rattle.mw_gen.specs.Generate.{closure_type, function_for}
use Rattle.mw_gen.specs.Parts.{module_in}
use Rattle.mw_link.specs.declared.parts.Linkable.{Linkable}
use Rattle.mw_link.specs.Linked.{all_functions, call_types, outer_functions, exports_from, linked}
use Rattle.mw_link.specs.Views.{kernels_of}

pub linked_is : (ls : List Linkable) (types : List FuncType) (inner outer funcs : List Func) (exports : List Export)
    (count : ℕ) → types ≡ closure_type ∷ init_type ∷ call_types (kernels_of ls)
    → map function_of inner ≡ map (function_for Two) (all_functions 0 (kernels_of ls))
    → map function_of outer ≡ outer_functions 0 2 (kernels_of ls) → funcs ≡ inner ++ outer → count ≡ length inner
    → map export_of exports ≡ exports_from count (kernels_of ls)
    → module_in types (map function_of funcs) (map export_of exports) count ≡ linked (kernels_of ls)
linked_is ls types inner outer funcs exports count t i o f n e =
    let m : count ≡ length (all_functions 0 (kernels_of ls)) =
    n ∙ (sym (length-map inner function_of) ∙ (ap length i
    ∙ length-map (all_functions 0 (kernels_of ls)) (function_for Two))) in
    let g : map function_of funcs ≡ map (function_for Two) (all_functions 0 (kernels_of ls))
    ++ outer_functions 0 2 (kernels_of ls) =
    ap (λ z. map function_of z) f ∙ (map-append function_of inner outer ∙ rw (i, o) refl) in
    rw (t, g, e, m) refl

pub always : {A B : Type 0} (P : Type 0) (r : Result A B) → P → IfOk r (λ x. P)
always P (Ok x) p = p
always P (Err e) p = tt

pub on_ok : {A B : Type 0} (P Q : A → Type 0) (r : Result A B) → ((x : A) → P x → Q x) → IfOk r P → IfOk r Q
on_ok P Q (Ok x) f p = f x p
on_ok P Q (Err e) f p = tt
