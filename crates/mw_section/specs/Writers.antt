-- Writers of lines, as they are held.
use Rattle.std.specs.Prelude.{ℕ, ◌≡◌, nat_lt, if◌then◌else◌, List, map, length, Option, Some, None}
use Rattle.std.specs.Ordering.{nat_cmp}
use Rattle.std.specs.BTreeMap.{get, btree_map_len}
use Rattle.mw_types.specs.Types.{TypeExpression}
use Rattle.mw_lines.specs.TypeLines.{TypeLine, line_of}
use Rattle.mw_lines.specs.Tables.{compare_lines}
use Rattle.mw_lines.specs.declared.lines.Line.{Line}
use Rattle.mw_section.specs.Writing.{Writing, Written, place_of, with_number, line_place, nothing_written}
use Rattle.mw_section.specs.Writing.{classifier_written, line_written, type_written}
use Rattle.mw_section.specs.declared.numbers.Numbers.{Numbers}
use Rattle.mw_section.specs.declared.table.LineTable.{LineTable}
use Rattle.mw_section.specs.declared.writer.LineWriter.{LineWriter}

-- a place, where it is one of so many
abbrev pub place_within : ℕ → ℕ → Option ℕ
place_within p count = if nat_lt p count then Some p else None

-- the numbers of what was met, which is these, in this order
pub record AreNumbers (m : Numbers) (ns : List ℕ) : Type 0 where
  pub count : btree_map_len m.numbers ≡ length ns
  pub each : (n : ℕ) → get nat_cmp m.numbers n ≡ place_within (place_of n ns) (length ns)

-- the lines in order, and the place of each
pub record AreLines (t : LineTable) (ls : List TypeLine) : Type 0 where
  pub lines : map line_of t.lines.items ≡ ls
  pub each : (l : Line) → get compare_lines t.places l ≡ place_within (line_place (line_of l) ls) (length ls)

-- the type was written, and has its line at this place: to write it again changes nothing
abbrev pub IsWritten : TypeExpression → ℕ → Writing → Type 0
IsWritten t p w = type_written t w ≡ record { place = p; writing = w }

-- Trees have these types by their numbers. The writer has written this, and each tree that it knows has its place.
pub record IsWriting (types : ℕ → TypeExpression) (writer : LineWriter) (w : Writing) : Type 0 where
  pub unknowns : AreNumbers writer.unknowns w.unknowns
  pub classifiers : AreNumbers writer.classifiers w.classifiers
  pub lines : AreLines writer.table w.lines
  pub trees : (n p : ℕ) → get nat_cmp writer.trees n ≡ Some p → IsWritten (types n) p w

-- after an unknown was met: its number
abbrev pub unknown_written : ℕ → Writing → Written
unknown_written u w = record {
  place = place_of u w.unknowns;
  writing = record { unknowns = with_number u w.unknowns; classifiers = w.classifiers; lines = w.lines };
}

-- A writer that had written something has written what a step makes of it, and this is the place that the step gives.
abbrev pub Puts : (ℕ → TypeExpression) → (Writing → Written) → LineWriter → LineWriter → ℕ → Type 0
Puts types step old new p = (w : Writing) → IsWriting types old w
    → (p ≡ (step w).place) × IsWriting types new (step w).writing

-- What a writer's calls do, whatever types the trees have by their numbers.

-- the writer has written nothing
abbrev pub HasWrittenNothing : LineWriter → Type 0
HasWrittenNothing writer = (types : ℕ → TypeExpression) → IsWriting types writer nothing_written

-- the type was written, and its line stands at this place
abbrev pub PutsType : TypeExpression → LineWriter → LineWriter → ℕ → Type 0
PutsType t old new p = (types : ℕ → TypeExpression) → Puts types (type_written t) old new p

-- the same, if the tree of this number has the type
abbrev pub PutsTree : ℕ → TypeExpression → LineWriter → LineWriter → ℕ → Type 0
PutsTree n t old new p = (types : ℕ → TypeExpression) → types n ≡ t → Puts types (type_written t) old new p

-- the classifier was met, and this is its number
abbrev pub PutsClassifier : ℕ → LineWriter → LineWriter → ℕ → Type 0
PutsClassifier c old new p = (types : ℕ → TypeExpression) → Puts types (classifier_written c) old new p

-- the unknown was met, and this is its number
abbrev pub PutsUnknown : ℕ → LineWriter → LineWriter → ℕ → Type 0
PutsUnknown u old new p = (types : ℕ → TypeExpression) → Puts types (unknown_written u) old new p

-- the line was written, and stands at this place
abbrev pub PutsLine : TypeLine → LineWriter → LineWriter → ℕ → Type 0
PutsLine l old new p = (types : ℕ → TypeExpression) → Puts types (line_written l) old new p

-- the lines are all that the writer has written
abbrev pub AreAllLines : LineWriter → List Line → Type 0
AreAllLines writer lines = (types : ℕ → TypeExpression) (w : Writing) → IsWriting types writer w
    → map line_of lines ≡ w.lines
