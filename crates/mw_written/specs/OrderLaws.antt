-- What the order of completed types is worth.
use Rattle.std.specs.Prelude.{ℕ, ◌≡◌, ◌<◌, ◌⊎◌, ◌↔◌, List, [], ◌∷◌, length, Some, slice_get}
use Rattle.mw_types.specs.Types.{TypeExpression, int_ty, bool_ty, unknown, pair_ty, function_ty, code_ty, closed_ty}
use Rattle.mw_lines.specs.TypeLines.{TypeLine, HoldsNoCode, AreTypeLines, NamesType}
use Rattle.mw_written.specs.Readings.{Reading, a_type, a_classifier}
use Rattle.mw_written.specs.Order.{with_new, with_type, AreCompleted, with_line}

-- the first type is a part of the second
abbrev pub IsPartOf : TypeExpression → TypeExpression → Type 0
IsPartOf u int_ty = ⊥
IsPartOf u bool_ty = ⊥
IsPartOf u (unknown v) = ⊥
IsPartOf u (pair_ty s t) = (u ≡ s) ⊎ (u ≡ t)
IsPartOf u (function_ty s t) = (u ≡ s) ⊎ (u ≡ t)
IsPartOf u (code_ty c t) = u ≡ t
IsPartOf u (closed_ty t) = u ≡ t

-- the first type is the second, or stands in it
abbrev pub IsWithin : TypeExpression → TypeExpression → Type 0
IsWithin u int_ty = u ≡ int_ty
IsWithin u bool_ty = u ≡ bool_ty
IsWithin u (unknown v) = u ≡ unknown v
IsWithin u (pair_ty s t) = (u ≡ pair_ty s t) ⊎ (IsWithin u s ⊎ IsWithin u t)
IsWithin u (function_ty s t) = (u ≡ function_ty s t) ⊎ (IsWithin u s ⊎ IsWithin u t)
IsWithin u (code_ty c t) = (u ≡ code_ty c t) ⊎ IsWithin u t
IsWithin u (closed_ty t) = (u ≡ closed_ty t) ⊎ IsWithin u t

-- the type is one that is read, or stands in one
abbrev pub IsReadIn : TypeExpression → List Reading → Type 0
IsReadIn u [] = ⊥
IsReadIn u (a_type t ∷ rs) = IsWithin u t ⊎ IsReadIn u rs
IsReadIn u (a_classifier c ∷ rs) = IsReadIn u rs

-- the type is one of these
abbrev pub IsOneOf : TypeExpression → List TypeExpression → Type 0
IsOneOf u ts = (i : ℕ) × (slice_get ts i ≡ Some u)

-- No type stands twice, and a type's parts stand before it.
pub record AreOrdered (ts : List TypeExpression) : Type 0 where
  pub once : (i j : ℕ) (t : TypeExpression) → slice_get ts i ≡ Some t → slice_get ts j ≡ Some t → i ≡ j
  pub parts : (i : ℕ) (t u : TypeExpression) → slice_get ts i ≡ Some t → IsPartOf u t
      → (j : ℕ) × (j < i) × (slice_get ts j ≡ Some u)

-- completed types are those that are read and those that stand in them, each once, after its parts
abbrev pub CompletedAreOrdered : Type 0
CompletedAreOrdered = (rs : List Reading) (ts : List TypeExpression) → AreCompleted rs ts
    → AreOrdered ts × ((u : TypeExpression) → IsOneOf u ts ↔ IsReadIn u rs)

-- where a line that names a type stands after type lines unless it is among them, they name that type after theirs
-- unless it is among those
abbrev pub NewLinesNameNewTypes : Type 0
NewLinesNameNewTypes = (lines : List TypeLine) (ts : List TypeExpression) → AreTypeLines lines ts
    → (l : TypeLine) (t : TypeExpression) → NamesType ts (length ts) l t
    → AreTypeLines (with_line lines l) (with_new ts t)

-- a type that is read again, after types that are ordered, adds nothing
abbrev pub ReadAgainAddsNothing : Type 0
ReadAgainAddsNothing = (ts : List TypeExpression) (t : TypeExpression) → AreOrdered ts → IsOneOf t ts
    → with_type ts t ≡ ts

-- no code type stands under a code type
abbrev pub HoldsNoNestedCode : TypeExpression → Type 0
HoldsNoNestedCode int_ty = Unit {0}
HoldsNoNestedCode bool_ty = Unit {0}
HoldsNoNestedCode (unknown u) = Unit {0}
HoldsNoNestedCode (pair_ty s t) = HoldsNoNestedCode s × HoldsNoNestedCode t
HoldsNoNestedCode (function_ty s t) = HoldsNoNestedCode s × HoldsNoNestedCode t
HoldsNoNestedCode (code_ty c t) = HoldsNoCode t
HoldsNoNestedCode (closed_ty t) = HoldsNoCode t

-- and none in a type that is read
abbrev pub ReadNoNestedCode : List Reading → Type 0
ReadNoNestedCode [] = Unit {0}
ReadNoNestedCode (a_type t ∷ rs) = HoldsNoNestedCode t × ReadNoNestedCode rs
ReadNoNestedCode (a_classifier c ∷ rs) = ReadNoNestedCode rs

-- then there are type lines that name the completed types
abbrev pub CompletedAreNamed : Type 0
CompletedAreNamed = (rs : List Reading) (ts : List TypeExpression) → AreCompleted rs ts → ReadNoNestedCode rs
    → (lines : List TypeLine) × AreTypeLines lines ts
