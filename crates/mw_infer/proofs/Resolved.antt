-- A scoped program of few nodes is one whose types can be checked.
use Rattle.std.proofs.Common.{◌≡◌, ℕ, zero, suc, ◌^◌, ◌<◌, ◌≤◌, false, List, [], ◌∷◌, map, length, Some, arith}
use Rattle.std.specs.Prelude.{slice_get}
use Rattle.mw_term.specs.Terms.{Expression, KernelType, size}
use Rattle.mw_term.specs.Programs.{Definition, value, kernel, PureProgram, IsSyntacticValue, definition_size}
use Rattle.mw_term.specs.Programs.{definitions_size, program_size}
use Rattle.mw_term.specs.Scoped.{IsScoped, is_seen}
use Rattle.mw_term.specs.Typable.{seen_by_item, seen_by_main}
use Rattle.mw_term.specs.Parts.{Part, IsPart, an_item, main, IsResolved}

-- no term of a program has more nodes than all of them
among : (ds : List Definition) (i : ℕ) (d : Definition) → slice_get ds i ≡ Some d → definition_size d
    ≤ definitions_size ds
among [] i d e = absurd (cc)
among (c ∷ ds) zero d e = let p : c ≡ d = cc in rw p (omega arith)
among (c ∷ ds) (suc i) d e = omega (arith, among ds i d e)

module _ (p : PureProgram) (small : program_size p < 2 ^ 31) where
  small-value : (i : ℕ) (e : Expression) → slice_get p.items i ≡ Some (value e) → size e < 2 ^ 32
  small-value i e at = omega (arith, among p.items i (value e) at)

  small-kernel : (i : ℕ) (k : KernelType) (e : Expression) → slice_get p.items i ≡ Some (kernel k e) → size e < 2 ^ 32
  small-kernel i k e at = omega (arith, among p.items i (kernel k e) at)

  small-part : {i : ℕ} {x : Part} → IsPart p i x → size x.term < 2 ^ 32
  small-part (an_item {i = i} {d = value e} at) = small-value i e at
  small-part (an_item {i = i} {d = kernel k e} at) = small-kernel i k e at
  small-part (main e) = omega arith

  module _ (lets : (i : ℕ) (e : Expression) → slice_get p.items i ≡ Some (value e) → IsSyntacticValue e
      × IsScoped (map is_seen (seen_by_item p.items i)) [] false e) (kernels : (i : ℕ) (k : KernelType) (e : Expression)
      → slice_get p.items i ≡ Some (kernel k e) → IsScoped (map is_seen (seen_by_item p.items i)) [] false e)
      (body : IsScoped (map is_seen (seen_by_main p.items)) [] false p.body) where
    scoped-part : {i : ℕ} {x : Part} → IsPart p i x → IsScoped (map is_seen x.names) [] false x.term
    scoped-part (an_item {i = i} {d = value e} at) = (lets i e at).1
    scoped-part (an_item {i = i} {d = kernel k e} at) = kernels i k e at
    scoped-part (main e) = body

    pub is_resolved : length p.items ≤ 1000 → IsResolved p
    is_resolved few = record {
      values = λ i e at. (lets i e at).0;
      scoped = λ i x a. scoped-part a;
      small = λ i x a. small-part a;
      count = omega arith;
    }
