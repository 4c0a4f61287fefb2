-- Type lines as they are held.
use Rattle.std.specs.Prelude.{ℕ, ◌≡◌, ◌<◌, Bool, true, false, if◌then◌else◌, List, [], ◌∷◌, map, length, get_or}
use Rattle.std.specs.declared.cmp.Ordering.{Ordering}
use Rattle.std.specs.BTreeSet.{contains}
use Rattle.mw_types.specs.Types.{TypeExpression, int_ty}
use Rattle.mw_lines.specs.TypeLines.{TypeLine, line_of, AreTypeLines}
use Rattle.mw_lines.specs.Naming.{types_named}
use Rattle.mw_lines.specs.Deciding.{holds_code, is_in, is_among}
use Rattle.mw_lines.specs.declared.lines.Line.{Line}
use Rattle.mw_lines.specs.declared.table.TypeLines.{TypeLines}
use Rattle.mw_lines.specs.declared.table.LineReader.{LineReader}
use Rattle.mw_lines.specs.contracts.lines.LineOrd.TheImpl as line_order

-- the views: the lines, and the types that they name
abbrev pub lines_of : TypeLines → List TypeLine
lines_of t = map line_of t.lines.items

abbrev pub types_of : TypeLines → List TypeExpression
types_of t = types_named (lines_of t)

-- the type that the line at a place names
abbrev pub type_at : TypeLines → ℕ → TypeExpression
type_at t i = get_or (types_of t) i int_ty

-- they are type lines, and of each it is known whether its type holds a code type
pub record AreHeld (t : TypeLines) : Type 0 where
  pub lines : AreTypeLines (lines_of t) (types_of t)
  pub codes : t.codes.items ≡ map holds_code (types_of t)

-- the places are of lines
abbrev pub AreWithin : TypeLines → List ℕ → Type 0
AreWithin t [] = Unit {0}
AreWithin t (i ∷ places) = (i < length (lines_of t)) × AreWithin t places

-- the classifier stands in the type of one of these lines
abbrev pub is_in_one : TypeLines → ℕ → List ℕ → Bool
is_in_one t a [] = false
is_in_one t a (i ∷ places) = if is_in a (type_at t i) then true else is_in_one t a places

-- the order in which lines are held in a set
abbrev pub compare_lines : Line → Line → Ordering
compare_lines = (line_order.ghosts).cmp

-- the reader has read these lines: it holds them, and its set has just them
pub record IsReading (reader : LineReader) (lines : List TypeLine) : Type 0 where
  pub known : lines_of reader.known ≡ lines
  pub held : AreHeld reader.known
  pub seen : (l : Line) → contains compare_lines reader.seen l ≡ is_among (line_of l) lines
