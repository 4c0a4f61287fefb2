-- Whether the line at a place names a type of the language, by lines alone.
use Rattle.std.specs.Prelude.{ℕ, Bool, false, ◌&&◌, List, Option, Some, None, slice_get}
use Rattle.mw_term.specs.declared.term.Base.TheVariants.{Int, Bool as Truth}
use Rattle.mw_term.specs.Terms.{GroundType, KernelType, base, product, of_ground, to}
use Rattle.mw_lines.specs.TypeLines.{TypeLine, int_line, bool_line, pair_line, arrow_line, closed_line}
use Rattle.mw_recheck.specs.Judging.{is_line}

-- the places of a line's parts, where it is of the form
abbrev pub pair_of : Option TypeLine → Option (ℕ × ℕ)
pair_of (Some (pair_line i j)) = Some (i, j)
pair_of _ = None

abbrev pub arrow_of : Option TypeLine → Option (ℕ × ℕ)
arrow_of (Some (arrow_line i j)) = Some (i, j)
arrow_of _ = None

abbrev pub closed_of : Option TypeLine → Option ℕ
closed_of (Some (closed_line i)) = Some i
closed_of _ = None

-- both parts are so, where there are two
abbrev pub both_are : Option (ℕ × ℕ) → (ℕ → Bool) → (ℕ → Bool) → Bool
both_are (Some x) f g = f x.0 && g x.1
both_are None f g = false

abbrev pub is_so : Option ℕ → (ℕ → Bool) → Bool
is_so (Some i) f = f i
is_so None f = false

abbrev pub ground_at : List TypeLine → ℕ → GroundType → Bool
ground_at ls i (base Int) = is_line ls i int_line
ground_at ls i (base Truth) = is_line ls i bool_line
ground_at ls i (product s t) = both_are (pair_of (slice_get ls i)) (λ j. ground_at ls j s) (λ k. ground_at ls k t)

abbrev pub kernel_at : List TypeLine → ℕ → KernelType → Bool
kernel_at ls i (of_ground t) = ground_at ls i t
kernel_at ls i (to s t) = both_are (arrow_of (slice_get ls i)) (λ j. ground_at ls j s) (λ k. ground_at ls k t)

abbrev pub closed_kernel_at : List TypeLine → ℕ → KernelType → Bool
closed_kernel_at ls i k = is_so (closed_of (slice_get ls i)) (λ j. kernel_at ls j k)
