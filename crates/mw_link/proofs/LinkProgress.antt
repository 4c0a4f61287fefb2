-- How far the kernels are linked.
use Rattle.std.proofs.Common.{◌≡◌, ℕ, suc, ◌+◌, ◌≤◌, ◌<◌, true, List, [], ◌∷◌, ◌++◌, length, refl, ap, ◌∙◌, sym, subst}
use Rattle.std.proofs.Common.{arith, map, length-append, append_assoc}
use Rattle.std.specs.Prelude.{drop, get_or}
use Rattle.std.specs.List.{AllByRecursion}
use Rattle.std.proofs.lemmas.Bool.{le-leb}
use Rattle.std.proofs.lemmas.List.{length-map, map-append, drop_more}
use Rattle.std.proofs.Math.ListN.{drop_of_length-le}
use Rattle.std.proofs.Common.{append-nil}
use Rattle.mw_term.specs.Terms.{Expression, size, depth_of, expression_of, kernel_type_of}
use Rattle.mw_wasm.specs.declared.modules.Func.{Func}
use Rattle.mw_wasm.specs.Views.{function_of}
use Rattle.mw_link.specs.declared.parts.Linkable.{Linkable}
use Rattle.mw_link.specs.Views.{exporting, kernel_of, kernels_of}
use Rattle.mw_term.specs.Limits.{within_limits, LiteralsFit}
use Rattle.mw_wasm.specs.declared.modules.FuncType.{FuncType}
use Rattle.mw_wasm.specs.Syntax.{Function, Exporting}
use Rattle.mw_meaning.specs.Shapes.{init_type}
use Rattle.mw_conv.specs.Convert.{functions, funs}
use Rattle.mw_conv.proofs.Scopes.{functions_length}
use Rattle.mw_key.specs.declared.version.Version.TheVariants.{Two}
use Rattle.mw_gen.specs.Generate.{closure_type, function_for, more_types}
use Rattle.mw_link.specs.Linked.{Kernel, calls, count, init_name, call_exports, exports_from, all_functions, call_types}
use Rattle.mw_link.specs.Linked.{call_of_type, init_from, outer_functions}
use Rattle.mw_link.specs.LinkLaw.{IsLinkable, AreLinkable, LiteralsOfAllFit}
use Rattle.mw_link.proofs.PartPlaces.{calls_one, types_length}

pub limits_kept : (c : Expression) → size c ≤ 20000 → depth_of c ≤ 400 → within_limits c ≡ true
limits_kept c a b = rw (le-leb _ _ a, le-leb _ _ b) refl

-- the lists so far, and what is to come of the kernels left, are the lists of all
pub record Going (all left : List Kernel) (inner outer : List Function) (types : List FuncType) : Type 0 where
  pub inner_is : inner ++ map (function_for Two) (all_functions (length inner) left)
      ≡ map (function_for Two) (all_functions 0 all)
  pub outer_is : outer ++ outer_functions (length inner) (length types) left ≡ outer_functions 0 2 all
  pub types_are : types ++ call_types left ≡ closure_type ∷ init_type ∷ call_types all
  pub linkable : AllByRecursion IsLinkable left
  pub literals : LiteralsOfAllFit left → LiteralsOfAllFit all

pub going_first : (all : List Kernel) → AreLinkable all → Going all all [] [] (closure_type ∷ init_type ∷ [])
going_first all are = record {
  inner_is = refl;
  outer_is = refl;
  types_are = refl;
  linkable = are.all;
  literals = λ fit.
      fit;
}

-- one kernel more
pub going_on : (all : List Kernel) (p : Kernel) (left : List Kernel) (inner outer : List Function)
    (types : List FuncType) → LiteralsFit p.code → Going all (p ∷ left) inner outer types
    → Going all left (inner ++ map (function_for Two) (functions p.code (length inner) 0))
    (outer ++ init_from (length inner) p.code ∷ call_of_type (length types) p.kind) (types ++ more_types p.kind)
going_on all p left inner outer types fit g =
    let n : length (inner ++ map (function_for Two) (functions p.code (length inner) 0)) ≡ length inner + funs p.code =
    length-append inner _ ∙ ap (λ k. length inner + k)
    (length-map (functions p.code (length inner) 0) (function_for Two)
    ∙ functions_length p.code (length inner) 0) in
    let m : length (types ++ more_types p.kind) ≡ length types + calls p.kind =
    length-append types (more_types p.kind) ∙ ap (λ k. length types + k) (types_length p.kind) in
    record {
      inner_is =
          rw n (append_assoc inner _ _ ∙ (ap (λ z. inner ++ z)
          (sym (map-append (function_for Two) (functions p.code (length inner) 0)
          (all_functions (length inner + funs p.code) left))) ∙ g.inner_is));
      outer_is = rw (n, m) (append_assoc outer _ _ ∙ g.outer_is);
      types_are = append_assoc types _ _ ∙ g.types_are;
      linkable = g.linkable.1;
      literals = λ others. g.literals (fit, others);
    }

-- when none is left
pub going_done : (all : List Kernel) (inner outer : List Function) (types : List FuncType)
    → Going all [] inner outer types → (inner ≡ map (function_for Two) (all_functions 0 all))
    × (outer ≡ outer_functions 0 2 all) × (types ≡ closure_type ∷ init_type ∷ call_types all) × LiteralsOfAllFit all
going_done all inner outer types g = (
  sym (append-nil inner) ∙ g.inner_is,
  sym (append-nil outer) ∙ g.outer_is,
  sym (append-nil types) ∙ g.types_are,
  g.literals tt,
)

pub call_types_few : (ps : List Kernel) → length (call_types ps) ≤ length ps
call_types_few [] = omega arith
call_types_few (p ∷ ps) =
    simp (length-append, types_length p.kind) (omega (arith, calls_one p.kind, call_types_few ps))

-- few functions and types so far
pub going_few : (all left : List Kernel) (inner outer : List Function) (types : List FuncType) → AreLinkable all
    → Going all left inner outer types → (length inner ≤ 100000) × (length types ≤ 102)
going_few all left inner outer types are g =
    let a : length inner ≤ count all =
    omega (arith, simp (length-append, length-map) at (ap length g.inner_is)) in
    let b : length types ≤ 2 + length all =
    omega (arith, call_types_few all, simp length-append at (ap length g.types_are)) in
    (omega (arith, are.together), omega (arith, are.few))

-- the same of kernels as they are given
pub going_here : (all : List Kernel) (ls : List Linkable) (i : ℕ) (x : Linkable) (inner outer : List Function)
    (types : List FuncType) → i < length ls → x ≡ get_or ls i x → Going all (kernels_of (drop i ls)) inner outer types
    → Going all (kernel_of x ∷ kernels_of (drop (i + 1) ls)) inner outer types
going_here all ls i x inner outer types lt e g =
    let d : drop i ls ≡ x ∷ drop (i + 1) ls = drop_more ls i x lt ∙ ap (λ y. y ∷ drop (i + 1) ls) (sym e) in
    subst (λ zs. Going all (kernels_of zs) inner outer types) d g

pub going_next : (ls : List Linkable) (i : ℕ) (x : Linkable) (inner inner' outer outer' : List Func)
    (types types' : List FuncType) → i < length ls → x ≡ get_or ls i x
    → Going (kernels_of ls) (kernels_of (drop i ls)) (map function_of inner) (map function_of outer) types
    → map function_of inner' ≡ map function_of inner ++ map (function_for Two)
    (functions (expression_of x.code) (length inner) 0)
    → map function_of outer' ≡ map function_of outer ++ init_from (length inner) (expression_of x.code)
    ∷ call_of_type (length types) (kernel_type_of x.kind)
    → types' ≡ types ++ more_types (kernel_type_of x.kind) → LiteralsFit (expression_of x.code)
    → Going (kernels_of ls) (kernels_of (drop (i + 1) ls)) (map function_of inner') (map function_of outer') types'
going_next ls i x inner inner' outer outer' types types' lt e g p q r fit =
    let l : length (map function_of inner) ≡ length inner = length-map inner function_of in
    let h =
    going_on (kernels_of ls) (kernel_of x) (kernels_of (drop (i + 1) ls)) (map function_of inner)
    (map function_of outer) types fit (going_here (kernels_of ls) ls i x (map function_of inner)
    (map function_of outer) types lt e g) in
    rw (p, q, r) (subst (λ k. Going (kernels_of ls) (kernels_of (drop (i + 1) ls))
    (map function_of inner ++ map (function_for Two) (functions (expression_of x.code) k 0))
    (map function_of outer ++ init_from k (expression_of x.code)
    ∷ call_of_type (length types) (kernel_type_of x.kind)) (types ++ more_types (kernel_type_of x.kind))) l h)

pub going_end : (ls : List Linkable) (i : ℕ) (inner outer : List Function) (types : List FuncType) → length ls ≤ i
    → Going (kernels_of ls) (kernels_of (drop i ls)) inner outer types
    → (inner ≡ map (function_for Two) (all_functions 0 (kernels_of ls))) × (outer ≡ outer_functions 0 2 (kernels_of ls))
    × (types ≡ closure_type ∷ init_type ∷ call_types (kernels_of ls)) × LiteralsOfAllFit (kernels_of ls)
going_end ls i inner outer types le g =
    going_done (kernels_of ls) inner outer types (subst (λ zs. Going (kernels_of ls) (kernels_of zs) inner outer types)
    (drop_of_length-le ls le) g)

-- exports so far, and what is to come
pub exports_next : (ls : List Linkable) (i number next base : ℕ) (x : Linkable) (out out' : List Exporting)
    → i < length ls → x ≡ get_or ls i x → out ++ exports_from number (kernels_of (drop i ls))
    ≡ exports_from base (kernels_of ls)
    → out' ≡ out ++ exporting (init_name x.name) number ∷ call_exports (number + 1) (kernel_of x)
    (kernel_type_of x.kind) → next ≡ number + calls (kernel_type_of x.kind) + 1
    → out' ++ exports_from next (kernels_of (drop (i + 1) ls)) ≡ exports_from base (kernels_of ls)
exports_next ls i number next base x out out' lt e g p q =
    let d : drop i ls ≡ x ∷ drop (i + 1) ls = drop_more ls i x lt ∙ ap (λ y. y ∷ drop (i + 1) ls) (sym e) in
    let a : number + 1 ≡ suc number = omega arith in
    let b : next ≡ suc (number + calls (kernel_type_of x.kind)) = omega arith in
    rw (p, a, b) (append_assoc out _ _ ∙ subst (λ zs. out ++ exports_from number (kernels_of zs)
    ≡ exports_from base (kernels_of ls)) d g)

pub exports_end : (ls : List Linkable) (i number base : ℕ) (out : List Exporting) → length ls ≤ i
    → out ++ exports_from number (kernels_of (drop i ls)) ≡ exports_from base (kernels_of ls)
    → out ≡ exports_from base (kernels_of ls)
exports_end ls i number base out le g =
    sym (append-nil out) ∙ subst (λ zs. out ++ exports_from number (kernels_of zs) ≡ exports_from base (kernels_of ls))
    (drop_of_length-le ls le) g
