-- The linked module is valid.
use Rattle.std.proofs.Common.{◌≡◌, ℕ, zero, suc, ◌+◌, ◌≤◌, List, [], ◌∷◌, length, refl, arith, map, length-append}
use Rattle.std.specs.List.{AllByRecursion}
use Rattle.std.proofs.lemmas.List.{length-map}
use Rattle.std.proofs.lemmas.Option.{slice_get_within}
use Rattle.mw_term.specs.Terms.{KernelType, of_ground, to}
use Rattle.mw_wasm.specs.declared.modules.FuncType.{FuncType}
use Rattle.mw_wasm.specs.Syntax.{Exporting}
use Rattle.mw_wasm.specs.Validity.{IsValidFunction, IsValidElement, IsThere, IsValid}
use Rattle.mw_conv.specs.Convert.{funs, lets}
use Rattle.mw_key.specs.declared.version.Version.TheVariants.{Two}
use Rattle.mw_gen.specs.Generate.{function_for, elements_of, more_types}
use Rattle.mw_gen.proofs.Modules.{Suits, funcs_valid, restarting_valid, call_valid, counting_below, few_results}
use Rattle.mw_gen.proofs.Ranges.{all_proper}
use Rattle.mw_link.specs.Linked.{Kernel, calls, call_types, call_of_type, outer_functions, call_exports, exports_from}
use Rattle.mw_link.specs.Linked.{count, linked}
use Rattle.mw_link.specs.LinkLaw.{LinkedIsValid}
use Rattle.mw_link.proofs.LinkableKernels.{IsWhole, AreWhole, whole}
use Rattle.mw_link.proofs.Names.{names_differ}
use Rattle.mw_link.proofs.PartPlaces.{T, Placed, all_placed, placed_next, placed_here, CallPlaced, proper, few, body}
use Rattle.mw_link.proofs.PartPlaces.{body_needs, body_sees}
use Rattle.mw_conv.proofs.Ranges.{both_all}

pub suits : (all : List Kernel) → Suits (linked all)
suits all = record { type0 = refl; table = refl; memory = refl; top = refl }

pub one_result : (ps : List Kernel) → AllByRecursion (λ (t : FuncType). length t.results ≤ 1) (call_types ps)
one_result [] = tt
one_result (p ∷ ps) = both_all _ (more_types p.kind) _ (few_results p.kind) (one_result ps)

module _ (all : List Kernel) (are : AreWhole all) where
  call_one : (x n e : ℕ) (p : Kernel) (k : KernelType) → CallPlaced all x n e p k
      → AllByRecursion (IsValidFunction (linked all)) (call_of_type x k)
  call_one x n e p (of_ground g) h = tt
  call_one x n e p (to s t) h = (call_valid Two (linked all) (suits all) s x h.1, tt)

  outer_valid : (o x n e : ℕ) (ps : List Kernel) → AllByRecursion IsWhole ps → Placed all o x n e ps
      → AllByRecursion (IsValidFunction (linked all)) (outer_functions o x ps)
  outer_valid o x n e [] a h = tt
  outer_valid o x n e (p ∷ ps) a h =
      let here = placed_here all o x n e p ps h in (
        restarting_valid Two (linked all) (suits all) (lets p.code) (body all are o x n e p a.0 here) refl
            (body_needs all are o x n e p a.0 here) (body_sees all are o x n e p a.0 here),
        both_all _ (call_of_type x p.kind) _ (call_one x n e p p.kind here.call)
            (outer_valid (o + funs p.code) (x + calls p.kind) (suc (n + calls p.kind)) (suc (e + calls p.kind)) ps a.1
            (placed_next all o x n e p ps h)),
      )

  exports_there : (o x n e : ℕ) (ps : List Kernel) → Placed all o x n e ps
      → AllByRecursion (λ (e : Exporting). IsThere (linked all) e.what) (exports_from n ps)
  exports_there o x n e [] h = tt
  exports_there o x n e (p ∷ ps) h =
      let here = placed_here all o x n e p ps h in (
        slice_get_within (linked all).funcs n _ here.is_init,
        both_all _ (call_exports (suc n) p p.kind) _ (go p.kind here.call)
            (exports_there (o + funs p.code) (x + calls p.kind) (suc (n + calls p.kind)) (suc (e + calls p.kind)) ps
            (placed_next all o x n e p ps h)),
      )
    where
      go : (k : KernelType) → CallPlaced all x n e p k → AllByRecursion (λ (e : Exporting). IsThere (linked all) e.what)
          (call_exports (suc n) p k)
      go (of_ground g) c = tt
      go (to s t) c = (slice_get_within (linked all).funcs (suc n) _ c.0, tt)

  elements_valid : (n : ℕ) → n ≡ count all → AllByRecursion (IsValidElement (linked all)) (elements_of n)
  elements_valid zero q = tt
  elements_valid (suc n) q =
      ((refl, tt, counting_below 0 (suc n) _ (simp (length-append, length-map) (omega arith))), tt)

pub valid_whole : (ps : List Kernel) → AreWhole ps → IsValid (linked ps)
valid_whole all are = record {
  types = (omega arith, (omega arith, one_result all));
  funcs =
      both_all _ (map (function_for Two) (T all)) _ (funcs_valid Two (linked all) (suits all) (T all)
      (all_proper (T all) (few all are) (proper all are) (T all) (proper all are)))
      (outer_valid all are 0 2 (count all) 0 all are.all (all_placed all));
  table = (let f = few all are in omega arith, (let f = few all are in omega arith, omega arith));
  memory = (omega arith, (omega arith, omega arith));
  globals = (tt, tt);
  exports = exports_there all are 0 2 (count all) 0 all (all_placed all);
  names = names_differ (count all) all are.differ;
  elements = elements_valid all are (count all) refl;
  segments = tt;
}

pub linked_is_valid : LinkedIsValid
linked_is_valid ps are fit = valid_whole ps (whole ps are fit)
