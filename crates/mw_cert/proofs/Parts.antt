-- The sections of parts, node by node and one behind the other.
use Rattle.std.proofs.Common.{◌≡◌, ℕ, ◌+◌, ◌≤◌, List, [], ◌∷◌, ◌++◌, map, length, drop, Some, refl, ap, sym}
use Rattle.std.proofs.Common.{◌∙◌, subst, append-nil, append_assoc, add-one}
use Rattle.std.specs.Prelude.{slice_get}
use Rattle.std.specs.List.{flat_map}
use Rattle.std.proofs.lemmas.List.{drop_all}
use Rattle.mw_types.specs.Types.{TypeExpression}
use Rattle.mw_infer.specs.Nodes.{NodeFacts}
use Rattle.mw_lines.specs.TypeLines.{TypeLine, line_of}
use Rattle.mw_lines.specs.declared.lines.Line.{Line}
use Rattle.mw_recheck.specs.Answers.{numbers_of}
use Rattle.mw_recheck.specs.Sections.{SectionLines, FitsSection, FitSections}
use Rattle.mw_recheck.specs.declared.section.NodeLine.{NodeLine}
use Rattle.mw_recheck.specs.Texts.{section_text, certificate_text}
use Rattle.mw_recheck.proofs.NodeLines.{drop_get}
use Rattle.mw_section.specs.Writing.{Writing, nothing_written}
use Rattle.mw_section.specs.Writers.{IsWriting}
use Rattle.mw_section.specs.declared.writer.LineWriter.{LineWriter}
use Rattle.mw_made.specs.Making.{node_written, nodes_written, section_of}
use Rattle.mw_cert.specs.Nodes.{PutsNode}

-- what is left of a list from a place on
from_on : {A : Type 0} (xs : List A) (k : ℕ) (x : A) → slice_get xs k ≡ Some x → drop k xs ≡ x ∷ drop (k + 1) xs
from_on xs k x h = rw add-one (drop_get xs k x h)

-- So many nodes of a part are written, and these are their lines.
pub record AreWritten (types : ℕ → TypeExpression) (facts : List NodeFacts) (k : ℕ) (m : LineWriter)
    (lines : List (List ℕ)) : Type 0 where
  pub written : Writing
  pub holds : IsWriting types m written
  pub lines_of_all : lines ++ (nodes_written (drop k facts) written).lines ≡ (nodes_written facts nothing_written).lines
  pub writing_of_all : (nodes_written (drop k facts) written).writing ≡ (nodes_written facts nothing_written).writing

module _ (types : ℕ → TypeExpression) (facts : List NodeFacts) where
  pub none_written : (m : LineWriter) → IsWriting types m nothing_written → AreWritten types facts 0 m []
  none_written m h = record { written = nothing_written; holds = h; lines_of_all = refl; writing_of_all = refl }

  pub more_written : (k : ℕ) (m n : LineWriter) (lines : List (List ℕ)) (x : NodeFacts) (line : List ℕ)
      → AreWritten types facts k m lines → slice_get facts k ≡ Some x → PutsNode types x m n line
      → AreWritten types facts (k + 1) n (lines ++ line ∷ [])
  more_written k m n lines x line r e f =
      let a = f r.written r.holds in
      let d : drop k facts ≡ x ∷ drop (k + 1) facts = from_on facts k x e in
      let w = node_written x r.written in
      let rest = nodes_written (drop (k + 1) facts) w.writing in
      record {
        written = w.writing;
        holds = a.1;
        lines_of_all = append_assoc lines (line ∷ []) rest.lines ∙ ap (λ l. lines ++ l ∷ rest.lines) a.0
            ∙ (rw d at r.lines_of_all);
        writing_of_all = rw d at r.writing_of_all;
      }

  all_written : (k : ℕ) (m : LineWriter) (lines : List (List ℕ)) → AreWritten types facts k m lines
      → length facts ≤ k
      → (lines ≡ (nodes_written facts nothing_written).lines)
      × IsWriting types m (nodes_written facts nothing_written).writing
  all_written k m lines r h =
      let d : drop k facts ≡ [] = drop_all k facts h in (
        sym (append-nil lines) ∙ (rw d at r.lines_of_all),
        subst (λ (w : Writing). IsWriting types m w) (rw d at r.writing_of_all) r.holds,
      )

  -- then they are the part's section
  pub is_section : (k : ℕ) (m : LineWriter) (lines : List Line) (nodes : List NodeLine)
      → AreWritten types facts k m (map numbers_of nodes) → length facts ≤ k
      → ((w : Writing) → IsWriting types m w → map line_of lines ≡ w.lines)
      → record { types = map line_of lines; nodes = map numbers_of nodes } ≡ section_of facts
  is_section k m lines nodes r h f =
      let a = all_written k m (map numbers_of nodes) r h in
      let s = nodes_written facts nothing_written in
      let from_types : List TypeLine → SectionLines = λ ls. record { types = ls; nodes = map numbers_of nodes } in
      let from_nodes : List (List ℕ) → SectionLines = λ ns. record { types = s.writing.lines; nodes = ns } in
      ap from_types (f s.writing a.1) ∙ ap from_nodes a.0

-- So many parts stand in a text, and all fit where those fit that are to come.
pub record StandsSoFar (parts : List (List NodeFacts)) (k : ℕ) (text : List ℕ) : Type 0 where
  pub text_of_all : text ++ flat_map section_text (map section_of (drop k parts))
      ≡ certificate_text (map section_of parts)
  pub fits : FitSections (map section_of (drop k parts)) → FitSections (map section_of parts)

module _ (parts : List (List NodeFacts)) where
  pub more_stands : (k : ℕ) (text new : List ℕ) (facts : List NodeFacts) → StandsSoFar parts k text
      → slice_get parts k ≡ Some facts → new ≡ text ++ section_text (section_of facts)
      → FitsSection (section_of facts) → StandsSoFar parts (k + 1) new
  more_stands k text new facts r e t f =
      let d : drop k parts ≡ facts ∷ drop (k + 1) parts = from_on parts k facts e in
      let rest = flat_map section_text (map section_of (drop (k + 1) parts)) in
      let fit = rw d at r.fits in
      record {
        text_of_all = ap (λ z. z ++ rest) t ∙ append_assoc text (section_text (section_of facts)) rest
            ∙ (rw d at r.text_of_all);
        fits = λ h. fit (f, h);
      }
