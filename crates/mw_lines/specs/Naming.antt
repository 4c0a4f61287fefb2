-- The types of lines, one after the other.
use Rattle.std.specs.Prelude.{List, [], ◌∷◌, ◌++◌, get_or}
use Rattle.mw_types.specs.Types.{TypeExpression, int_ty, bool_ty, unknown, pair_ty, function_ty, code_ty, closed_ty}
use Rattle.mw_lines.specs.TypeLines.{TypeLine, int_line, bool_line, unknown_line, pair_line, arrow_line, code_line}
use Rattle.mw_lines.specs.TypeLines.{closed_line}

-- the type that a line names, where the lines before it name these
abbrev pub type_named : List TypeExpression → TypeLine → TypeExpression
type_named ts int_line = int_ty
type_named ts bool_line = bool_ty
type_named ts (unknown_line u) = unknown u
type_named ts (pair_line i j) = pair_ty (get_or ts i int_ty) (get_or ts j int_ty)
type_named ts (arrow_line i j) = function_ty (get_or ts i int_ty) (get_or ts j int_ty)
type_named ts (code_line c i) = code_ty c (get_or ts i int_ty)
type_named ts (closed_line i) = closed_ty (get_or ts i int_ty)

-- the types that lines name after lines that name these
abbrev pub types_after : List TypeExpression → List TypeLine → List TypeExpression
types_after ts [] = ts
types_after ts (l ∷ lines) = types_after (ts ++ type_named ts l ∷ []) lines

-- The types that lines name; where they are type lines, no other types are named by them.
abbrev pub types_named : List TypeLine → List TypeExpression
types_named lines = types_after [] lines
