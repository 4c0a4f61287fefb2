-- What is known of a program's types.
use Rattle.std.specs.Prelude.{ℕ, ◌≡◌, ◌<◌, List, [], map, Some, None, IfSome, slice_get, slice_index_or}
use Rattle.std.specs.List.{AllByRecursion}
use Rattle.mw_types.specs.Types.{TypeExpression}
use Rattle.mw_types.specs.Solutions.{Solution, substitution_of}
use Rattle.mw_types.specs.declared.types.Ty.{Ty}
use Rattle.mw_infer.specs.Nodes.{NodeNumbers, NodeFacts, facts_at}

-- a solution of a part's equations, and the numbers of the nodes of its term, in pre-order
pub record PartTypes : Type 0 where
  pub solution : Solution
  pub nodes : List NodeNumbers

-- the types of a program's items, in order, and after them main's, and what is known of each part
pub record Typing : Type 0 where
  pub types : List Ty
  pub parts : List PartTypes

-- the numbers of a node, and the solution that they are of
pub record NodeTyping : Type 0 where
  pub solution : Solution
  pub numbers : NodeNumbers

-- the types and the classifier that the solution gives the node
abbrev pub facts_of_node : NodeTyping → NodeFacts
facts_of_node n = facts_at (substitution_of n.solution) n.numbers

-- the numbers of the trees that hold these types
abbrev pub trees_of : NodeTyping → List ℕ
trees_of n = map (λ u. slice_index_or n.solution.roots u 0) n.numbers.types

-- a part's nodes
abbrev pub nodes_of : PartTypes → List NodeTyping
nodes_of x = map (λ n. record { solution = x.solution; numbers = n }) x.nodes

-- the nodes of the part at an index, if there is one
abbrev pub nodes_at : Typing → ℕ → List NodeTyping
nodes_at t i = elim (slice_get t.parts i) [ Some x ↦ nodes_of x | None ↦ [] ]

-- what is known of the nodes of a part, and of those of each part
abbrev pub facts_of_part : PartTypes → List NodeFacts
facts_of_part x = map facts_of_node (nodes_of x)

abbrev pub facts_of : Typing → List (List NodeFacts)
facts_of t = map facts_of_part t.parts

-- the tree of this number holds this type, and each unknown that the tree is of has it
pub record HoldsType (s : Solution) (r : ℕ) (t : TypeExpression) : Type 0 where
  pub unknown : ℕ
  pub held : slice_get s.roots unknown ≡ Some r
  pub one : (v : ℕ) → slice_get s.roots v ≡ Some r → (substitution_of s).ty v ≡ t

-- a node's numbers are among the first n unknowns and the first m classifier unknowns
pub record IsNodeWithin (n m : ℕ) (x : NodeNumbers) : Type 0 where
  pub types : AllByRecursion (λ u. u < n) x.types
  pub classifier : IfSome x.classifier (λ c. c < m)

-- and so are those of each node of a list, for the unknowns of a solution
abbrev pub AreNodesWithin : ℕ → ℕ → List NodeNumbers → Type 0
AreNodesWithin n m nodes = AllByRecursion (IsNodeWithin n m) nodes
