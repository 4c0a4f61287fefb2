-- The types of lines beside types of the language.
use Rattle.std.proofs.Common.{◌≡◌, ℕ, ◌<◌, Bool, length, Some, refl, List, get_or}
use Rattle.std.specs.Prelude.{slice_get}
use Rattle.std.proofs.lemmas.Option.{slice_get-get_or}
use Rattle.mw_types.specs.Types.{TypeExpression, int_ty, bool_ty, pair_ty, function_ty, closed_ty}
use Rattle.mw_lines.specs.TypeLines.{TypeLine, int_line, bool_line, pair_line, arrow_line, closed_line, AreTypeLines}
use Rattle.mw_lines.specs.Naming.{types_named, type_named}
use Rattle.mw_lines.specs.Deciding.{same_line, same_type}
use Rattle.mw_recheck.specs.Judging.{type_of, is_line}
use Rattle.mw_term.specs.declared.term.Base.TheVariants.{Int, Bool as Truth}
use Rattle.mw_term.specs.Terms.{GroundType, KernelType, base, product, of_ground, to}
use Rattle.mw_types.specs.Expressions.{ground_expression, kernel_expression}
use Rattle.mw_recheck.specs.Kernels.{pair_of, arrow_of, closed_of, both_are, is_so, ground_at, kernel_at}
use Rattle.mw_recheck.specs.Kernels.{closed_kernel_at}
use Rattle.mw_recheck.proofs.Places.{HasParts, line-names}

module _ (ls : List TypeLine) (known : AreTypeLines ls (types_named ls)) where
  -- the line at a place, and what it names
  line_there : (i : ℕ) → i < length ls
      → (l : TypeLine) × (slice_get ls i ≡ Some l) × HasParts ls l × (type_of ls i ≡ type_named (types_named ls) l)
  line_there i h =
      let e = slice_get-get_or ls i int_line h in
      let n = line-names ls known i (get_or ls i int_line) e in
      (get_or ls i int_line, e, n.0, n.1)

  int_there : (i : ℕ) → i < length ls → is_line ls i int_line ≡ same_type (type_of ls i) int_ty
  int_there i h = let l = line_there i h in rw (l.1, l.3) (of l.0)
    where
      of : (l : TypeLine) → same_line l int_line ≡ same_type (type_named (types_named ls) l) int_ty
      of int_line = refl
      of _ = refl

  bool_there : (i : ℕ) → i < length ls → is_line ls i bool_line ≡ same_type (type_of ls i) bool_ty
  bool_there i h = let l = line_there i h in rw (l.1, l.3) (of l.0)
    where
      of : (l : TypeLine) → same_line l bool_line ≡ same_type (type_named (types_named ls) l) bool_ty
      of bool_line = refl
      of _ = refl

  -- where the parts of a line are tested rightly
  abbrev IsTest : (ℕ → Bool) → TypeExpression → Type 0
  IsTest f t = (j : ℕ) → j < length ls → f j ≡ same_type (type_of ls j) t

  pub ground-at : (i : ℕ) (g : GroundType) → i < length ls
      → ground_at ls i g ≡ same_type (type_of ls i) (ground_expression g)
  ground-at i (base Int) w = int_there i w
  ground-at i (base Truth) w = bool_there i w
  ground-at i (product s t) w = let l = line_there i w in rw (l.1, l.3)
      (of (λ j. ground_at ls j s) (λ k. ground_at ls k t) (λ j p. ground-at j s p) (λ k p. ground-at k t p) l.0 l.2)
    where
      of : (f g : ℕ → Bool) → IsTest f (ground_expression s) → IsTest g (ground_expression t) → (l : TypeLine)
          → HasParts ls l → both_are (pair_of (Some l)) f g
          ≡ same_type (type_named (types_named ls) l) (pair_ty (ground_expression s) (ground_expression t))
      of f g p q (pair_line j k) w = rw (p j w.0, q k w.1) refl
      of f g p q _ w = refl

  pub kernel-at : (i : ℕ) (k : KernelType) → i < length ls
      → kernel_at ls i k ≡ same_type (type_of ls i) (kernel_expression k)
  kernel-at i (of_ground t) w = ground-at i t w
  kernel-at i (to s t) w = let l = line_there i w in rw (l.1, l.3) (of l.0 l.2)
    where
      of : (l : TypeLine) → HasParts ls l → both_are (arrow_of (Some l)) (λ j. ground_at ls j s) (λ k. ground_at ls k t)
          ≡ same_type (type_named (types_named ls) l) (function_ty (ground_expression s) (ground_expression t))
      of (arrow_line j k) p = rw (ground-at j s p.0, ground-at k t p.1) refl
      of _ p = refl

  pub closed_kernel-at : (i : ℕ) (k : KernelType) → i < length ls
      → closed_kernel_at ls i k ≡ same_type (type_of ls i) (closed_ty (kernel_expression k))
  closed_kernel-at i k w = let l = line_there i w in rw (l.1, l.3) (of l.0 l.2)
    where
      of : (l : TypeLine) → HasParts ls l → is_so (closed_of (Some l)) (λ j. kernel_at ls j k)
          ≡ same_type (type_named (types_named ls) l) (closed_ty (kernel_expression k))
      of (closed_line j) p = kernel-at j k p
      of _ p = refl
