-- The linked module is within the profile.
use Rattle.std.proofs.Common.{ℕ, zero, suc, ◌+◌, ◌≤◌, List, [], ◌∷◌, length, arith, map}
use Rattle.std.specs.Prelude.{codes}
use Rattle.std.specs.List.{AllByRecursion}
use Rattle.std.proofs.lemmas.List.{length-replicate}
use Rattle.mw_term.specs.Terms.{KernelType, of_ground, to}
use Rattle.mw_wasm.specs.declared.values.ValType.TheVariants.{I64}
use Rattle.mw_wasm.specs.Syntax.{Function, Exporting, end}
use Rattle.mw_wasm.specs.Profile.{IsShallow, IsPrintable, IsWithinProfile}
use Rattle.mw_ir.specs.declared.place.Place.TheVariants.{Argument}
use Rattle.mw_conv.specs.Convert.{funs, lets, code}
use Rattle.mw_conv.proofs.Ranges.{code_depth, lets_depth}
use Rattle.mw_key.specs.declared.version.Version.TheVariants.{Two}
use Rattle.mw_gen.specs.Generate.{function_for, wants_spare, spare_count, elements_of}
use Rattle.mw_gen.proofs.Profile.{temps_two, expression_depth, locals_few, all_shallow, call_depth}
use Rattle.mw_gen.proofs.Ranges.{shallow, all_modest}
use Rattle.mw_link.specs.Linked.{Kernel, calls, call_of_type, outer_functions, call_exports, exports_from, count}
use Rattle.mw_link.specs.Linked.{linked}
use Rattle.mw_link.specs.LinkLaw.{LinkedIsWithinProfile}
use Rattle.mw_link.proofs.LinkableKernels.{IsWhole, whole, AreWhole}
use Rattle.mw_link.proofs.PartPlaces.{T, proper, few}
use Rattle.mw_link.proofs.Valid.{one_result}
use Rattle.mw_conv.proofs.Ranges.{both_all}

abbrev Few : Function → Type 0
Few f = length f.locals ≤ 50_000

abbrev Flat : Function → Type 0
Flat f = IsShallow f.body

outer_few : (o x : ℕ) (ps : List Kernel) → AllByRecursion IsWhole ps → AllByRecursion Few (outer_functions o x ps)
outer_few o x [] a = tt
outer_few o x (p ∷ ps) a = (
  (let d = a.0.flat in omega (
    arith,
    lets_depth p.code,
    length-replicate
        (lets p.code + spare_count (wants_spare (code p.code o 0 0 (λ i. Argument)))) I64,
    temps_two
        (wants_spare (code p.code o 0 0 (λ i. Argument))),
  )),
  both_all Few (call_of_type x p.kind) _ (here p.kind)
      (outer_few (o + funs p.code) (x + calls p.kind) ps a.1),
)
  where
    here : (k : KernelType) → AllByRecursion Few (call_of_type x k)
    here (of_ground g) = tt
    here (to s t) = (omega arith, tt)

outer_flat : (o x : ℕ) (ps : List Kernel) → AllByRecursion IsWhole ps → AllByRecursion Flat (outer_functions o x ps)
outer_flat o x [] a = tt
outer_flat o x (p ∷ ps) a =
    let e = code p.code o 0 0 (λ i. Argument) in (
      (let d = a.0.flat in omega (
        arith,
        expression_depth e 0 (0 + lets p.code) end 400 (omega arith)
            (omega (arith, shallow e, code_depth p.code o 0 0 (λ i. Argument))),
      )),
      both_all Flat (call_of_type x p.kind) _
          (here p.kind) (outer_flat (o + funs p.code) (x + calls p.kind) ps a.1),
    )
  where
    here : (k : KernelType) → AllByRecursion Flat (call_of_type x k)
    here (of_ground g) = tt
    here (to s t) = (call_depth s, tt)

abbrev Named : Exporting → Type 0
Named e = AllByRecursion IsPrintable e.name

pub init_end : AllByRecursion IsPrintable (codes ".init")
init_end = omega arith

pub call_end : AllByRecursion IsPrintable (codes ".call")
call_end = omega arith

names : (n : ℕ) (ps : List Kernel) → AllByRecursion IsWhole ps → AllByRecursion Named (exports_from n ps)
names n [] a = tt
names n (p ∷ ps) a = (
  both_all IsPrintable p.name _ a.0.printable init_end,
  both_all Named (call_exports (suc n) p p.kind) _
      (here p.kind) (names (suc (n + calls p.kind)) ps a.1),
)
  where
    here : (k : KernelType) → AllByRecursion Named (call_exports (suc n) p k)
    here (of_ground g) = tt
    here (to s t) = (both_all IsPrintable p.name _ a.0.printable call_end, tt)

elements : (n : ℕ) → AllByRecursion (λ e. IsShallow e.offset) (elements_of n)
elements zero = tt
elements (suc n) = (omega arith, tt)

pub within_profile : (ps : List Kernel) → AreWhole ps → IsWithinProfile (linked ps)
within_profile all are =
    let modest = all_modest (T all) (few all are) (proper all are) (T all) (proper all are) in
    record {
      type_results = (omega arith, (omega arith, one_result all));
      table_elements = are.together;
      memory_pages = omega arith;
      further_locals =
          both_all Few (map (function_for Two) (T all)) _ (locals_few Two (T all) modest) (outer_few 0 2 all are.all);
      export_names = names (count all) all are.all;
      function_depth =
          both_all Flat (map (function_for Two) (T all)) _ (all_shallow Two (T all) modest)
          (outer_flat 0 2 all are.all);
      global_depth = (omega arith, tt);
      element_depth = elements (count all);
      segment_depth = tt;
    }

pub linked_is_within_profile : LinkedIsWithinProfile
linked_is_within_profile ps are fit = within_profile ps (whole ps are fit)
