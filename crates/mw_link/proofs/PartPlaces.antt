-- Where the parts of kernels stand in the linked module.
use Rattle.std.proofs.Common.{◌≡◌, ℕ, suc, ◌+◌, ◌≤◌, List, [], ◌∷◌, length, Some, refl, ap, ◌∙◌, subst, arith, map}
use Rattle.std.proofs.Common.{option_map}
use Rattle.std.specs.Prelude.{slice_get}
use Rattle.std.specs.List.{AllByRecursion}
use Rattle.std.proofs.lemmas.List.{length-map}
use Rattle.std.proofs.lemmas.Option.{slice_get-map}
use Rattle.mw_term.specs.Terms.{KernelType, of_ground, to}
use Rattle.mw_wasm.specs.declared.modules.Exported.TheVariants.{Func}
use Rattle.mw_wasm.specs.Syntax.{PureModule}
use Rattle.mw_meaning.specs.Shapes.{call_type, init_type}
use Rattle.mw_ir.specs.declared.place.Place.TheVariants.{Argument}
use Rattle.mw_ir.specs.Ir.{Ir, IrFunc}
use Rattle.mw_ir.specs.Ranges.{IsProper, IsOuterPlace, IsInRange}
use Rattle.mw_conv.specs.Convert.{funs, lets, code, functions}
use Rattle.mw_conv.specs.Represents.{Has}
use Rattle.mw_conv.proofs.Heaps.{has_front}
use Rattle.mw_conv.proofs.Scopes.{has_next}
use Rattle.mw_conv.proofs.Correct.{has_self}
use Rattle.mw_conv.proofs.Closures.{occurs_below}
use Rattle.mw_conv.proofs.Ranges.{code_range, functions_proper}
use Rattle.mw_key.specs.declared.version.Version.TheVariants.{Two}
use Rattle.mw_gen.specs.Generate.{function_for, call_numbered, more_types}
use Rattle.mw_gen.proofs.Slots.{slots_needed}
use Rattle.mw_gen.proofs.Correctness.{Fine, Sound, Carries}
use Rattle.mw_gen.proofs.Valid.{Sees}
use Rattle.mw_gen.proofs.Ranges.{fine, needs, seen, all_sound, outer_below}
use Rattle.mw_link.specs.Linked.{Kernel, calls, all_functions, call_types, call_of_type, init_from, outer_functions}
use Rattle.mw_link.specs.Linked.{init_name, call_name, call_exports, exports_from, count, linked}
use Rattle.mw_link.proofs.LinkableKernels.{IsWhole, AreWhole}
use Rattle.mw_link.proofs.Positions.{AtFrom, at_start, at_after, at_front, at_back}
use Rattle.mw_conv.proofs.Ranges.{both_all}
use Rattle.mw_conv.proofs.Heaps.{get_append}

pub calls_length : (x : ℕ) (k : KernelType) → length (call_of_type x k) ≡ calls k
calls_length x (of_ground g) = refl
calls_length x (to s t) = refl

pub calls_one : (k : KernelType) → calls k ≤ 1
calls_one (of_ground g) = omega arith
calls_one (to s t) = omega arith

pub types_length : (k : KernelType) → length (more_types k) ≡ calls k
types_length (of_ground g) = refl
types_length (to s t) = refl

pub call_exports_length : (n : ℕ) (p : Kernel) (k : KernelType) → length (call_exports n p k) ≡ calls k
call_exports_length n p (of_ground g) = refl
call_exports_length n p (to s t) = refl

module _ (all : List Kernel) where
  abbrev pub T : List IrFunc
  T = all_functions 0 all

  abbrev pub M : PureModule
  M = linked all

  -- These kernels are the last ones: their functions are numbered from o on, their call's types from x on; their first
  -- `init` is function n, and their first export is number e.
  pub record Placed (o x n e : ℕ) (ps : List Kernel) : Type 0 where
    pub functions : Has T o (all_functions o ps)
    pub outside : AtFrom M.funcs n (outer_functions o x ps)
    pub types : AtFrom M.types x (call_types ps)
    pub exports : AtFrom M.exports e (exports_from n ps)

  pub all_placed : Placed 0 2 (count all) 0 all
  all_placed = record {
    functions = has_self [] T;
    outside =
        subst (λ n. AtFrom M.funcs n (outer_functions 0 2 all)) (length-map T (function_for Two))
        (at_after (map (function_for Two) T) (outer_functions 0 2 all));
    types = at_after (Rattle.mw_gen.specs.Generate.closure_type ∷ init_type ∷ []) (call_types all);
    exports = at_start (exports_from (count all) all);
  }

  -- the others
  pub placed_next : (o x n e : ℕ) (p : Kernel) (ps : List Kernel) → Placed o x n e (p ∷ ps)
      → Placed (o + funs p.code) (x + calls p.kind) (suc (n + calls p.kind)) (suc (e + calls p.kind)) ps
  placed_next o x n e p ps h = record {
    functions = has_next T p.code o 0 (λ o. all_functions o ps) h.functions;
    outside =
        let r = at_back M.funcs (suc n) (call_of_type x p.kind) _ h.outside.1 in
        let q : suc n + length (call_of_type x p.kind) ≡ suc (n + calls p.kind) =
        omega (arith, calls_length x p.kind) in
        subst (λ k. AtFrom M.funcs k (outer_functions (o + funs p.code) (x + calls p.kind) ps)) q r;
    types =
        let r = at_back M.types x (more_types p.kind) _ h.types in
        subst (λ k. AtFrom M.types (x + k) (call_types ps)) (types_length p.kind) r;
    exports =
        let r = at_back M.exports (suc e) (call_exports (suc n) p p.kind) _ h.exports.1 in
        let q : suc e + length (call_exports (suc n) p p.kind) ≡ suc (e + calls p.kind) =
        omega (arith, call_exports_length (suc n) p p.kind) in
        subst (λ k. AtFrom M.exports k (exports_from (suc (n + calls p.kind)) ps)) q r;
  }

  -- where `call` stands
  abbrev pub CallPlaced : (x n e : ℕ) → Kernel → KernelType → Type 0
  CallPlaced x n e p (of_ground g) = Unit {0}
  CallPlaced x n e p (to s t) =
      (slice_get M.funcs (suc n) ≡ Some (call_numbered x s)) × (slice_get M.types x ≡ Some (call_type s))
      × (slice_get M.exports (suc e) ≡ Some record { name = call_name p.name; what = Func (suc n) })

  -- a kernel's parts
  pub record Here (o x n e : ℕ) (p : Kernel) : Type 0 where
    pub functions : Has T o (functions p.code o 0)
    pub is_init : slice_get M.funcs n ≡ Some (init_from o p.code)
    pub init_export : slice_get M.exports e ≡ Some record { name = init_name p.name; what = Func n }
    pub call : CallPlaced x n e p p.kind

  pub placed_here : (o x n e : ℕ) (p : Kernel) (ps : List Kernel) → Placed o x n e (p ∷ ps) → Here o x n e p
  placed_here o x n e p ps h = record {
    functions = has_front T o (functions p.code o 0) _ h.functions;
    is_init = h.outside.0;
    init_export = h.exports.0;
    call =
        go p.kind (at_front M.funcs (suc n) (call_of_type x p.kind) _ h.outside.1)
        (at_front M.types x (more_types p.kind) _ h.types)
        (at_front M.exports (suc e) (call_exports (suc n) p p.kind) _ h.exports.1);
  }
    where
      go : (k : KernelType) → AtFrom M.funcs (suc n) (call_of_type x k) → AtFrom M.types x (more_types k)
          → AtFrom M.exports (suc e) (call_exports (suc n) p k) → CallPlaced x n e p k
      go (of_ground g) a b c = tt
      go (to s t) a b c = (a.0, b.0, c.0)

  pub carries : Carries Two T M
  carries = record {
    funcs =
        λ j f q. get_append (map (function_for Two) T) _ j (function_for Two f)
        (slice_get-map (function_for Two) T j ∙ ap (λ o. option_map (function_for Two) o) q);
    type0 = refl;
  }

  module _ (are : AreWhole all) where
    -- all functions are in range
    proper_from : (o x n e : ℕ) (ps : List Kernel) → AllByRecursion IsWhole ps → Placed o x n e ps
        → AllByRecursion (IsProper T) (all_functions o ps)
    proper_from o x n e [] a h = tt
    proper_from o x n e (p ∷ ps) a h =
        let q = a.0 in
        both_all (IsProper T) (functions p.code o 0) _ (functions_proper T p.code o 0 q.closed q.literals
        (let f = q.flat in omega arith) (placed_here o x n e p ps h).functions)
        (proper_from (o + funs p.code) (x + calls p.kind) (suc (n + calls p.kind)) (suc (e + calls p.kind)) ps a.1
        (placed_next o x n e p ps h))

    pub proper : AllByRecursion (IsProper T) T
    proper = proper_from 0 2 (count all) 0 all are.all all_placed

    pub few : length T ≤ 100_000
    few = are.together

    pub sound : Sound T
    sound = all_sound T few proper

    -- the code outside a kernel's functions
    module _ (o x n e : ℕ) (p : Kernel) (is : IsWhole p) (here : Here o x n e p) where
      abbrev pub body : Ir
      body = code p.code o 0 0 (λ i. Argument)

      pub body_range : IsInRange T (IsOuterPlace (lets p.code)) (lets p.code) body
      body_range =
          code_range T (IsOuterPlace (lets p.code)) (lets p.code) (λ s lt. lt) p.code o 0 0 (λ i. Argument) is.literals
          (λ i q. (let lt = occurs_below p.code 0 i is.closed q in absurd (omega arith))) (omega arith)
          here.functions

      pub body_fine : Fine body
      body_fine = fine T (IsOuterPlace (lets p.code)) (lets p.code) few body body_range

      pub body_needs : slots_needed body ≤ lets p.code
      body_needs = needs T (IsOuterPlace (lets p.code)) (lets p.code) body body_range

      pub body_sees : (w : ℕ) → lets p.code ≤ w → Sees body 0 w
      body_sees w le =
          seen T (IsOuterPlace (lets p.code)) (lets p.code) 0 w (outer_below (lets p.code) w le) body body_range
