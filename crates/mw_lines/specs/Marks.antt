-- Marks of lines whose types hold code, and what a walk down them keeps.
use Rattle.std.specs.Prelude.{ℕ, ◌≡◌, ◌<◌, ◌≤◌, ◌⊎◌, Bool, true, false, ◌==◌, if◌then◌else◌, List, length, slice_index}
use Rattle.std.specs.Prelude.{slice_index_or, slice_set}
use Rattle.mw_lines.specs.TypeLines.{TypeLine, int_line, bool_line, unknown_line, pair_line, arrow_line, code_line}
use Rattle.mw_lines.specs.TypeLines.{closed_line}
use Rattle.mw_lines.specs.Deciding.{holds_code, is_in}
use Rattle.mw_lines.specs.Tables.{lines_of, type_at}
use Rattle.mw_lines.specs.declared.table.TypeLines.{TypeLines}

-- those of the first so many places whose types hold code are below the end, which is at most the count of lines
pub record EndsCode (t : TypeLines) (places : List ℕ) (count end : ℕ) : Type 0 where
  pub within : end ≤ length (lines_of t)
  pub covers : (i : ℕ) → i < count → holds_code (type_at t (slice_index places i)) ≡ true
      → slice_index places i < end

-- whether a place is marked, and that none is
abbrev pub is_marked : List Bool → ℕ → Bool
is_marked marks k = slice_index_or marks k false

abbrev pub AreUnmarked : List Bool → Type 0
AreUnmarked marks = (k : ℕ) → is_marked marks k ≡ false

-- the place is marked where its type holds code
abbrev pub marks_with : TypeLines → ℕ → List Bool → List Bool
marks_with t i marks = if holds_code (type_at t i) then slice_set marks i true else marks

-- the parts of a pair's or a function's line are marked where their types hold code
abbrev pub marks_of_parts : TypeLines → TypeLine → List Bool → List Bool
marks_of_parts t (pair_line i j) marks = marks_with t j (marks_with t i marks)
marks_of_parts t (arrow_line i j) marks = marks_with t j (marks_with t i marks)
marks_of_parts t int_line marks = marks
marks_of_parts t bool_line marks = marks
marks_of_parts t (unknown_line u) marks = marks
marks_of_parts t (code_line c i) marks = marks
marks_of_parts t (closed_line i) marks = marks

-- the line names code under the classifier
abbrev pub names_classifier : ℕ → TypeLine → Bool
names_classifier a (code_line c i) = c == a
names_classifier a int_line = false
names_classifier a bool_line = false
names_classifier a (unknown_line u) = false
names_classifier a (pair_line i j) = false
names_classifier a (arrow_line i j) = false
names_classifier a (closed_line i) = false

-- One step of the walk. Marks stay, and the parts of the place's type are marked where it is.
pub record Passes (t : TypeLines) (a : ℕ) (old new : List Bool) (place : ℕ) : Type 0 where
  pub count : length new ≡ length old
  pub grows : (k : ℕ) → is_marked old k ≡ true → is_marked new k ≡ true
  pub clear : (k : ℕ) → is_marked new k ≡ true → (is_marked old k ≡ true)
      ⊎ ((is_marked old place ≡ true) × (is_in a (type_at t place) ≡ false → is_in a (type_at t k) ≡ false))

-- the classifier stands in no other way in the place's type than in that of a lower mark
abbrev pub IsPassed : TypeLines → ℕ → List Bool → ℕ → Type 0
IsPassed t a new place = ((k : ℕ) → k < place → is_marked new k ≡ true → is_in a (type_at t k) ≡ false)
    → is_in a (type_at t place) ≡ false
