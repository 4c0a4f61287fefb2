-- What is decided of lines and types.
use Rattle.std.specs.Prelude.{ℕ, ◌≡◌, ◌↔◌, true, false, List, Some, slice_get}
use Rattle.mw_types.specs.Types.{TypeExpression}
use Rattle.mw_lines.specs.TypeLines.{TypeLine, HoldsNoCode, AreTypeLines}
use Rattle.mw_lines.specs.Naming.{types_named}
use Rattle.mw_lines.specs.Deciding.{holds_code, are_type_lines, is_made, is_in}
use Rattle.mw_lines.specs.Made.{IsMadeFrom, IsNotIn}

-- lines that name types name just these
abbrev pub LinesNameOneList : Type 0
LinesNameOneList = (lines : List TypeLine) (ts : List TypeExpression) → AreTypeLines lines ts → ts ≡ types_named lines

-- whether lines name types
abbrev pub LinesAreDecided : Type 0
LinesAreDecided = (lines : List TypeLine) → (are_type_lines lines ≡ true) ↔ AreTypeLines lines (types_named lines)

-- two lines never name one type
abbrev pub OneLine : Type 0
OneLine = (lines : List TypeLine) (ts : List TypeExpression) → AreTypeLines lines ts → (t : TypeExpression) (i j : ℕ)
    → slice_get ts i ≡ Some t → slice_get ts j ≡ Some t → i ≡ j

-- whether a type is made from a root
abbrev pub MakingIsDecided : Type 0
MakingIsDecided = (root t : TypeExpression) → (is_made root t ≡ true) ↔ IsMadeFrom root t

-- whether a type holds a code type, and whether a classifier stands in it
abbrev pub CodeIsDecided : Type 0
CodeIsDecided = (t : TypeExpression) → (holds_code t ≡ false) ↔ HoldsNoCode t

abbrev pub ClassifiersAreDecided : Type 0
ClassifiersAreDecided = (a : ℕ) (t : TypeExpression) → (is_in a t ≡ false) ↔ IsNotIn a t
