-- The sections that are made for what inference tells of a program's nodes.
use Rattle.std.specs.Prelude.{ℕ, List, [], ◌∷◌, ◌++◌, Option, Some, None}
use Rattle.mw_infer.specs.Nodes.{NodeFacts}
use Rattle.mw_recheck.specs.Sections.{SectionLines}
use Rattle.mw_section.specs.Writing.{Writing, nothing_written, classifier_written}
use Rattle.mw_section.specs.WritingLaws.{all_written}

-- a node's line, and what is written then
pub record NodeWritten : Type 0 where
  pub line : List ℕ
  pub writing : Writing

-- a line with these places, at whose end stands the number of the classifier, if there is one
abbrev pub line_ended : Option ℕ → List ℕ → Writing → NodeWritten
line_ended None places w = record { line = places; writing = w }
line_ended (Some c) places w =
    let a = classifier_written c w in record { line = places ++ a.place ∷ []; writing = a.writing }

-- a node's types are written in order, and then its classifier
abbrev pub node_written : NodeFacts → Writing → NodeWritten
node_written x w = let a = all_written x.types w in line_ended x.classifier a.places a.writing

-- the lines of nodes, one after the other, and what is written then
pub record NodesWritten : Type 0 where
  pub lines : List (List ℕ)
  pub writing : Writing

abbrev pub nodes_written : List NodeFacts → Writing → NodesWritten
nodes_written [] w = record { lines = []; writing = w }
nodes_written (x ∷ facts) w =
    let a = node_written x w in
    let b = nodes_written facts a.writing in
    record { lines = a.line ∷ b.lines; writing = b.writing }

-- the section of a part's nodes
abbrev pub section_of : List NodeFacts → SectionLines
section_of facts =
    let a = nodes_written facts nothing_written in record { types = a.writing.lines; nodes = a.lines }
