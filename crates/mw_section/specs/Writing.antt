-- How types are written as lines: parts first, each line once, unknowns and classifiers numbered as they are met.
use Rattle.std.specs.Prelude.{ℕ, suc, ◌==◌, if◌then◌else◌, List, [], ◌∷◌}
use Rattle.mw_types.specs.Types.{TypeExpression, int_ty, bool_ty, unknown, pair_ty, function_ty, code_ty, closed_ty}
use Rattle.mw_lines.specs.TypeLines.{TypeLine, int_line, bool_line, unknown_line, pair_line, arrow_line, code_line}
use Rattle.mw_lines.specs.TypeLines.{closed_line}
use Rattle.mw_lines.specs.Deciding.{same_line}

-- the place of a number among others, or their count where it isn't among them
abbrev pub place_of : ℕ → List ℕ → ℕ
place_of n [] = 0
place_of n (m ∷ ms) = if m == n then 0 else suc (place_of n ms)

-- the numbers, with this one behind them where it isn't among them
abbrev pub with_number : ℕ → List ℕ → List ℕ
with_number n [] = n ∷ []
with_number n (m ∷ ms) = if m == n then m ∷ ms else m ∷ with_number n ms

-- the same of lines
abbrev pub line_place : TypeLine → List TypeLine → ℕ
line_place l [] = 0
line_place l (k ∷ lines) = if same_line k l then 0 else suc (line_place l lines)

abbrev pub with_line : TypeLine → List TypeLine → List TypeLine
with_line l [] = l ∷ []
with_line l (k ∷ lines) = if same_line k l then k ∷ lines else k ∷ with_line l lines

-- What is written: the unknowns and the classifiers that were met, in the order in which they were, and the lines. The
-- number of an unknown or of a classifier is its place.
pub record Writing : Type 0 where
  pub unknowns : List ℕ
  pub classifiers : List ℕ
  pub lines : List TypeLine

abbrev pub nothing_written : Writing
nothing_written = record { unknowns = []; classifiers = []; lines = [] }

-- what stands at a place, and what is written then
pub record Written : Type 0 where
  pub place : ℕ
  pub writing : Writing

-- after a line
abbrev pub line_written : TypeLine → Writing → Written
line_written l w = record {
  place = line_place l w.lines;
  writing = record { unknowns = w.unknowns; classifiers = w.classifiers; lines = with_line l w.lines };
}

-- after a classifier was met: its number
abbrev pub classifier_written : ℕ → Writing → Written
classifier_written c w = record {
  place = place_of c w.classifiers;
  writing = record { unknowns = w.unknowns; classifiers = with_number c w.classifiers; lines = w.lines };
}

-- after a type: the place of its line
abbrev pub type_written : TypeExpression → Writing → Written
type_written int_ty w = line_written int_line w
type_written bool_ty w = line_written bool_line w
type_written (unknown u) w =
    line_written (unknown_line (place_of u w.unknowns))
    (record { unknowns = with_number u w.unknowns; classifiers = w.classifiers; lines = w.lines })
type_written (pair_ty s t) w =
    let a = type_written s w in
    let b = type_written t a.writing in
    line_written (pair_line a.place b.place) b.writing
type_written (function_ty s t) w =
    let a = type_written s w in
    let b = type_written t a.writing in
    line_written (arrow_line a.place b.place) b.writing
type_written (code_ty c t) w =
    let d = classifier_written c w in
    let a = type_written t d.writing in
    line_written (code_line d.place a.place) a.writing
type_written (closed_ty t) w =
    let a = type_written t w in
    line_written (closed_line a.place) a.writing
