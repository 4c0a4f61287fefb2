-- A program whose parts are without fault runs code at small types alone.
use Rattle.std.proofs.Common.{◌≡◌, ℕ, ◌+◌, ◌≤◌, List, [], ◌∷◌, length, Some, refl, ap, sym, ◌∙◌, arith}
use Rattle.std.specs.Prelude.{slice_get}
use Rattle.mw_term.specs.declared.term.Base.TheVariants.{Int, Bool}
use Rattle.mw_term.specs.Terms.{Expression, GroundType, KernelType, base, product, of_ground, to}
use Rattle.mw_term.specs.Terms.{num, truth, var, glob, fun, fix, app, bind, cond, pair, fst, snd, prim, bracket, escape}
use Rattle.mw_term.specs.Terms.{run, close, opened, lift, lift_b, done}
use Rattle.mw_term.specs.Types.{Level, live, under, closed_type, ground_type, kernel_type}
use Rattle.mw_term.specs.Limits.{ground_nodes, kernel_nodes}
use Rattle.mw_term.specs.Programs.{Definition, value as defines, kernel, PureProgram}
use Rattle.mw_term.specs.Typing.{TopLevel}
use Rattle.mw_term.specs.Typable.{seen_by_item}
use Rattle.mw_term.specs.SmallTypes.{HasSmallRuns, HasSmallDefinition, HasSmallTypes}
use Rattle.mw_types.specs.Types.{unknown, closed_ty, value, nodes, size, Substitution, after}
use Rattle.mw_types.specs.Equations.{Solves, IsSmall}
use Rattle.mw_types.proofs.Smallest.{least_size}
use Rattle.mw_infer.specs.Schemes.{TopScheme}
use Rattle.mw_types.specs.Expressions.{kernel_expression}
use Rattle.mw_infer.specs.ItemEquations.{Slot, slot, unknowns_of, classifiers_of, equations}
use Rattle.mw_term.specs.Parts.{kernel_place}
use Rattle.mw_infer.specs.Inferring.{own_equations, least}
use Rattle.mw_term.specs.Parts.{Part, part_of_item, part_of_main, an_item, main}
use Rattle.mw_infer.specs.Checking.{IsFaultless, AreFaultless, HasSmallKernels}
use Rattle.mw_types.proofs.Expressions.{value-kernel_expression}
use Rattle.mw_infer.proofs.Sound.{Solves-parts, Solves-three, no_wrong}

size-ground : (t : GroundType) → size (ground_type t) ≡ ground_nodes t
size-ground (base Int) = refl
size-ground (base Bool) = refl
size-ground (product s t) = omega (arith, size-ground s, size-ground t)

size-kernel : (k : KernelType) → size (kernel_type k) ≡ kernel_nodes k
size-kernel (of_ground t) = size-ground t
size-kernel (to s t) = omega (arith, size-ground s, size-ground t)

module _ (tops : List TopScheme) (n : ℕ) (s : Substitution) (small : IsSmall n s) where
  -- the type of the closed code that a run takes has one node more than the type that it is run at
  small-run : (o : ℕ) (k : KernelType) → nodes (s.ty o) ≤ 10000
      → value (after least s) (unknown o) ≡ value (after least s) (closed_ty (kernel_expression k)) → kernel_nodes k
      ≤ 10000
  small-run o k le e =
      let v = ap closed_type (value-kernel_expression (after least s) k) in
      let p : nodes (s.ty o) ≡ size (kernel_type k) + 1 = sym (least_size (s.ty o)) ∙ ap size (e ∙ v) in
      omega (arith, p, size-kernel k)

  -- a term whose equations have a small solution
  small-runs : (u o c : ℕ) (g : List Slot) (m : Level) (e : Expression) → o + unknowns_of tops e ≤ n
      → Solves (after least s) (equations tops u o c g m e) → HasSmallRuns e
  small-runs u o c g m (num z) le h = tt
  small-runs u o c g m (truth b) le h = tt
  small-runs u o c g m (var i) le h = tt
  small-runs u o c g m (glob i) le h = tt
  small-runs u o c g m (fun e) le h = small-runs (o + 1) (o + 2) c (slot m o ∷ g) m e (omega arith) h.1
  small-runs u o c g m (fix e) le h = small-runs (o + 2) (o + 3) c (slot m o ∷ slot m (o + 1) ∷ g) m e (omega arith)
      h.1.1
  small-runs u o c g m (app f a) le h =
      let p = Solves-parts (after least s) _ _ h.1 in (
        small-runs o (o + 2) c g m f (omega arith) p.0,
        small-runs (o + 1) (o + 2 + unknowns_of tops f) (c + classifiers_of tops f) g m a (omega arith) p.1,
      )
  small-runs u o c g m (bind d e) le h =
      let p = Solves-parts (after least s) _ _ h.1.1 in (
        small-runs (o + 1) (o + 3) c g m d (omega arith) p.0,
        small-runs (o + 2) (o + 3 + unknowns_of tops d) (c + classifiers_of tops d) (slot m o ∷ g) m e (omega arith)
            p.1,
      )
  small-runs u o c g m (cond q a b) le h =
      let p = Solves-three (after least s) _ _ _ h.1.1.1 in (
        small-runs o (o + 3) c g m q (omega arith) p.0,
        small-runs (o + 1) (o + 3 + unknowns_of tops q) (c + classifiers_of tops q) g m a (omega arith) p.1,
        small-runs (o + 2) (o + 3 + unknowns_of tops q + unknowns_of tops a)
            (c + classifiers_of tops q + classifiers_of tops a) g m b (omega arith) p.2,
      )
  small-runs u o c g m (pair a b) le h =
      let p = Solves-parts (after least s) _ _ h.1 in (
        small-runs o (o + 2) c g m a (omega arith) p.0,
        small-runs (o + 1) (o + 2 + unknowns_of tops a) (c + classifiers_of tops a) g m b (omega arith) p.1,
      )
  small-runs u o c g m (fst e) le h = small-runs (o + 1) (o + 2) c g m e (omega arith) h.1
  small-runs u o c g m (snd e) le h = small-runs (o + 1) (o + 2) c g m e (omega arith) h.1
  small-runs u o c g m (prim q a b) le h =
      let p = Solves-parts (after least s) _ _ h.1.1.1 in (
        small-runs o (o + 2) c g m a (omega arith) p.0,
        small-runs (o + 1) (o + 2 + unknowns_of tops a) (c + classifiers_of tops a) g m b (omega arith) p.1,
      )
  small-runs u o c g live (bracket e) le h = small-runs o (o + 1) (c + 1) g (under c) e (omega arith) h.1
  small-runs u o c g (under d) (bracket e) le h = no_wrong (after least s) h
  small-runs u o c g live (escape e) le h = no_wrong (after least s) h
  small-runs u o c g (under d) (escape e) le h = small-runs o (o + 1) c g live e (omega arith) h.1
  small-runs u o c g live (run k e) le h =
      (small-run o k (small o (omega arith)) h.0, small-runs o (o + 1) c g live e (omega arith) h.1.1)
  small-runs u o c g (under d) (run k e) le h = no_wrong (after least s) h
  small-runs u o c g live (close at e) le h = small-runs (o + 1) (o + 2) (c + 1) g live e (omega arith) h.1.1
  small-runs u o c g (under d) (close at e) le h = no_wrong (after least s) h
  small-runs u o c g live (opened e) le h = small-runs (o + 1) (o + 2) (c + 1) g live e (omega arith) h.1.1
  small-runs u o c g (under d) (opened e) le h = no_wrong (after least s) h
  small-runs u o c g live (lift e) le h = small-runs o (o + 1) (c + 1) g live e (omega arith) h.1.1
  small-runs u o c g (under d) (lift e) le h = no_wrong (after least s) h
  small-runs u o c g live (lift_b e) le h = small-runs o (o + 1) (c + 1) g live e (omega arith) h.1.1
  small-runs u o c g (under d) (lift_b e) le h = no_wrong (after least s) h
  small-runs u o c g m (done v) le h = tt

-- a part that is without fault
faultless-small_runs : (x : Part) → IsFaultless x → HasSmallRuns x.term
faultless-small_runs x h =
    let s = h.fine.0 in
    let solved = (Solves-parts (after least s) (own_equations x.place) (equations h.schemes 0 1 0 [] live x.term)
    (h.fine.1.sound least)).1 in
    small-runs h.schemes _ s h.fine.2 0 1 0 [] live x.term (omega arith) solved

-- and whose place asks closed code of a kernel type
faultless-small_kernel : (names : List TopLevel) (k : KernelType) (e : Expression)
    → IsFaultless (part_of_item names (kernel k e)) → kernel_nodes k ≤ 10000
faultless-small_kernel names k e h =
    let s = h.fine.0 in
    let solved = (Solves-parts (after least s) (own_equations (kernel_place k)) (equations h.schemes 0 1 0 [] live e)
    (h.fine.1.sound least)).0 in
    small-run h.schemes _ s h.fine.2 0 k (h.fine.2 0 (omega arith)) solved.0

module _ (p : PureProgram) (h : AreFaultless p) where
  small-definition : (i : ℕ) (d : Definition) → slice_get p.items i ≡ Some d → HasSmallDefinition d
  small-definition i (defines e) a = faultless-small_runs _ (h i _ (an_item a))
  small-definition i (kernel k e) a = faultless-small_runs _ (h i _ (an_item a))

  pub faultless-small_types : HasSmallTypes p
  faultless-small_types =
      record {
        items = small-definition;
        body = faultless-small_runs (part_of_main p)
            (h (length p.items) (part_of_main p) (main refl));
      }

  pub faultless-small_kernels : HasSmallKernels p
  faultless-small_kernels i k e a = faultless-small_kernel (seen_by_item p.items i) k e (h i _ (an_item a))
