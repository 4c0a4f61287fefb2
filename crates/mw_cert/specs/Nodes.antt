-- What is known of the nodes of parts, as it is written.
use Rattle.std.specs.Prelude.{ℕ, ◌≡◌, ◌+◌, ◌≤◌, List, ◌++◌, map, length, option_to_list, Option, Some, None}
use Rattle.std.specs.Prelude.{slice_get}
use Rattle.mw_types.specs.Types.{TypeExpression, int_ty}
use Rattle.mw_types.specs.Solutions.{Solution, substitution_of}
use Rattle.mw_infer.specs.Nodes.{NodeFacts}
use Rattle.mw_infer.specs.Typings.{Typing, facts_of_node, nodes_at}
use Rattle.mw_section.specs.Writing.{Writing, place_of}
use Rattle.mw_section.specs.WritingLaws.{all_written}
use Rattle.mw_section.specs.Writers.{IsWriting}
use Rattle.mw_section.specs.declared.writer.LineWriter.{LineWriter}
use Rattle.mw_made.specs.Making.{line_ended, node_written}

-- the type of the tree of this number: that of the first unknown whose type it holds
abbrev pub type_of_tree : Solution → ℕ → TypeExpression
type_of_tree s r = (substitution_of s).ty (place_of r s.roots)

-- that of a tree of the part at an index
abbrev pub type_at_part : Typing → ℕ → ℕ → TypeExpression
type_at_part t i = elim (slice_get t.parts i) [ Some x ↦ type_of_tree x.solution | None ↦ λ r. int_ty ]

-- what is known of the nodes of the part at an index
abbrev pub facts_at_part : Typing → ℕ → List NodeFacts
facts_at_part t i = map facts_of_node (nodes_at t i)

-- A writer that had written something has written these types, in order, and these are their places.
abbrev pub PutsAll : (ℕ → TypeExpression) → List TypeExpression → LineWriter → LineWriter → List ℕ → Type 0
PutsAll types ts old new places = (w : Writing) → IsWriting types old w
    → (places ≡ (all_written ts w).places) × IsWriting types new (all_written ts w).writing

-- A writer that had written something has written this classifier, if there is one, and this is the end of a line.
abbrev pub PutsEnd : (ℕ → TypeExpression) → Option ℕ → LineWriter → LineWriter → List ℕ → Type 0
PutsEnd types c old new end = (w : Writing) (places : List ℕ) → IsWriting types old w
    → (places ++ end ≡ (line_ended c places w).line) × IsWriting types new (line_ended c places w).writing

-- A writer that had written something has written this node, and this is its line.
abbrev pub PutsNode : (ℕ → TypeExpression) → NodeFacts → LineWriter → LineWriter → List ℕ → Type 0
PutsNode types x old new line = (w : Writing) → IsWriting types old w
    → (line ≡ (node_written x w).line) × IsWriting types new (node_written x w).writing

-- a node's types and its classifier are three at most, those of each node of a list, and of each list
abbrev pub IsShort : NodeFacts → Type 0
IsShort x = length x.types + length (option_to_list x.classifier) ≤ 3

abbrev pub AreShort : List NodeFacts → Type 0
AreShort facts = (n : ℕ) (x : NodeFacts) → slice_get facts n ≡ Some x → IsShort x

abbrev pub AllAreShort : List (List NodeFacts) → Type 0
AllAreShort parts = (i : ℕ) (facts : List NodeFacts) → slice_get parts i ≡ Some facts → AreShort facts
