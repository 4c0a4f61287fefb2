-- Type lines as pure data, and the types that they name.
use Rattle.std.specs.Prelude.{ℕ, ◌≡◌, ◌<◌, List, length, Some, slice_get}
use Rattle.mw_types.specs.Types.{TypeExpression, int_ty, bool_ty, unknown, pair_ty, function_ty, code_ty, closed_ty}
use Rattle.mw_lines.specs.declared.lines.Line.{Line}
use Rattle.mw_lines.specs.declared.lines.Line.TheVariants.{Int, Bool, Unknown, Pair, Arrow, Code, Closed}

-- A type line names a type: its unknown, its classifier, and by their places the earlier lines that name its parts.
pub data TypeLine : Type 0 where
  int_line : TypeLine
  bool_line : TypeLine
  unknown_line : (u : ℕ) → TypeLine
  pair_line : (i j : ℕ) → TypeLine
  arrow_line : (i j : ℕ) → TypeLine
  code_line : (c i : ℕ) → TypeLine
  closed_line : (i : ℕ) → TypeLine

-- the view
abbrev pub line_of : Line → TypeLine
line_of Int = int_line
line_of Bool = bool_line
line_of (Unknown u) = unknown_line u
line_of (Pair i j) = pair_line i j
line_of (Arrow i j) = arrow_line i j
line_of (Code c i) = code_line c i
line_of (Closed i) = closed_line i

-- the type holds no code type
abbrev pub HoldsNoCode : TypeExpression → Type 0
HoldsNoCode int_ty = Unit {0}
HoldsNoCode bool_ty = Unit {0}
HoldsNoCode (unknown u) = Unit {0}
HoldsNoCode (pair_ty s t) = HoldsNoCode s × HoldsNoCode t
HoldsNoCode (function_ty s t) = HoldsNoCode s × HoldsNoCode t
HoldsNoCode (code_ty c t) = ⊥
HoldsNoCode (closed_ty t) = ⊥

-- the line at place i, among lines that name these types, names its part by the earlier place j
pub record NamesPart (ts : List TypeExpression) (i j : ℕ) (t : TypeExpression) : Type 0 where
  pub earlier : j < i
  pub named : slice_get ts j ≡ Some t

-- the line at place i, among lines that name these types, names the type
pub data NamesType (ts : List TypeExpression) (i : ℕ) : TypeLine → TypeExpression → Type 0 where
  names_int : NamesType ts i int_line int_ty
  names_bool : NamesType ts i bool_line bool_ty
  names_unknown : {u : ℕ} → NamesType ts i (unknown_line u) (unknown u)
  names_pair : {j k : ℕ} {s t : TypeExpression} → NamesPart ts i j s → NamesPart ts i k t
      → NamesType ts i (pair_line j k) (pair_ty s t)
  names_arrow : {j k : ℕ} {s t : TypeExpression} → NamesPart ts i j s → NamesPart ts i k t
      → NamesType ts i (arrow_line j k) (function_ty s t)
  names_code : {c j : ℕ} {t : TypeExpression} → NamesPart ts i j t → HoldsNoCode t
      → NamesType ts i (code_line c j) (code_ty c t)
  names_closed : {j : ℕ} {t : TypeExpression} → NamesPart ts i j t → HoldsNoCode t
      → NamesType ts i (closed_line j) (closed_ty t)

-- Lines that name these types, in their order. No line stands twice, and no code type stands under a code type.
pub record AreTypeLines (lines : List TypeLine) (ts : List TypeExpression) : Type 0 where
  pub count : length ts ≡ length lines
  pub each : (i : ℕ) (l : TypeLine) (t : TypeExpression) → slice_get lines i ≡ Some l → slice_get ts i ≡ Some t
      → NamesType ts i l t
  pub once : (i j : ℕ) (l : TypeLine) → slice_get lines i ≡ Some l → slice_get lines j ≡ Some l → i ≡ j
