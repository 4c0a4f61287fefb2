-- Certificates as pure data: for each item and for main its type lines and its node lines.
use Rattle.std.specs.Prelude.{ℕ, ◌<◌, ◌^◌, List, [], ◌∷◌, length}
use Rattle.mw_lines.specs.TypeLines.{TypeLine, int_line, bool_line, unknown_line, pair_line, arrow_line, code_line}
use Rattle.mw_lines.specs.TypeLines.{closed_line}

-- the lines of an item or of main: a node line is its numbers
pub record SectionLines : Type 0 where
  pub types : List TypeLine
  pub nodes : List (List ℕ)

-- the numbers are below 2^64
abbrev pub FitsLine : TypeLine → Type 0
FitsLine int_line = Unit {0}
FitsLine bool_line = Unit {0}
FitsLine (unknown_line u) = u < 2 ^ 64
FitsLine (pair_line i j) = (i < 2 ^ 64) × (j < 2 ^ 64)
FitsLine (arrow_line i j) = (i < 2 ^ 64) × (j < 2 ^ 64)
FitsLine (code_line c i) = (c < 2 ^ 64) × (i < 2 ^ 64)
FitsLine (closed_line i) = i < 2 ^ 64

abbrev pub FitNumbers : List ℕ → Type 0
FitNumbers [] = Unit {0}
FitNumbers (n ∷ ns) = (n < 2 ^ 64) × FitNumbers ns

abbrev pub FitLines : List TypeLine → Type 0
FitLines [] = Unit {0}
FitLines (l ∷ ls) = FitsLine l × FitLines ls

abbrev pub FitNodes : List (List ℕ) → Type 0
FitNodes [] = Unit {0}
FitNodes (l ∷ ls) = FitNumbers l × FitNodes ls

pub record FitsSection (x : SectionLines) : Type 0 where
  pub types : FitLines x.types
  pub nodes : FitNodes x.nodes
  pub type_count : length x.types < 2 ^ 64
  pub node_count : length x.nodes < 2 ^ 64

abbrev pub FitSections : List SectionLines → Type 0
FitSections [] = Unit {0}
FitSections (x ∷ xs) = FitsSection x × FitSections xs
