-- The bytes of certificates. Numbers are decimal without leading zeros, and a line feed ends each line.
use Rattle.std.specs.Prelude.{ℕ, ◌≡◌, List, [], ◌∷◌, ◌++◌, length, codes}
use Rattle.std.specs.List.{flat_map}
use Rattle.std.specs.Fmt.{decimal}
use Rattle.mw_lines.specs.TypeLines.{TypeLine, int_line, bool_line, unknown_line, pair_line, arrow_line, code_line}
use Rattle.mw_lines.specs.TypeLines.{closed_line}
use Rattle.mw_recheck.specs.Sections.{SectionLines, FitSections}

-- numbers with one space between, and the end of their line
abbrev pub numbers_text : List ℕ → List ℕ
numbers_text [] = codes "\n"
numbers_text (n ∷ []) = decimal n ++ codes "\n"
numbers_text (n ∷ m ∷ ns) = decimal n ++ (codes " " ++ numbers_text (m ∷ ns))

abbrev pub type_text : TypeLine → List ℕ
type_text int_line = codes "int\n"
type_text bool_line = codes "bool\n"
type_text (unknown_line u) = codes "u " ++ numbers_text (u ∷ [])
type_text (pair_line i j) = codes "pair " ++ numbers_text (i ∷ j ∷ [])
type_text (arrow_line i j) = codes "arrow " ++ numbers_text (i ∷ j ∷ [])
type_text (code_line c i) = codes "code " ++ numbers_text (c ∷ i ∷ [])
type_text (closed_line i) = codes "closed " ++ numbers_text (i ∷ [])

abbrev pub types_text : List TypeLine → List ℕ
types_text lines = codes "types " ++ (numbers_text (length lines ∷ []) ++ flat_map type_text lines)

abbrev pub nodes_text : List (List ℕ) → List ℕ
nodes_text nodes = codes "nodes " ++ (numbers_text (length nodes ∷ []) ++ flat_map numbers_text nodes)

abbrev pub section_text : SectionLines → List ℕ
section_text x = types_text x.types ++ nodes_text x.nodes

abbrev pub certificate_text : List SectionLines → List ℕ
certificate_text xs = codes "cert1\n" ++ flat_map section_text xs

-- the bytes are the text of these sections
pub record IsCertificateText (bytes : List ℕ) (xs : List SectionLines) : Type 0 where
  pub fits : FitSections xs
  pub text : bytes ≡ certificate_text xs
