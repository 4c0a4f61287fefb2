-- The nodes of a source's tree, each with its place: how many tokens stand from the one with which the node is there to
-- the end of the file.
use Rattle.std.specs.Prelude.{ℕ, zero, suc, ◌+◌, max}

pub data Nodes : Type 0 where
  none : Nodes
  node : (at : ℕ) (s : Nodes) → Nodes
  both : (s t : Nodes) → Nodes

-- 1 where a node of that place is there, with m tokens unread
abbrev pub there : ℕ → ℕ → ℕ
there zero zero = 0
there zero (suc at) = 1
there (suc m) zero = 0
there (suc m) (suc at) = there m at

-- the nodes on the longest path of the tree so far, with m tokens unread
abbrev pub depth : ℕ → Nodes → ℕ
depth m none = 0
depth m (node at s) = there m at + depth m s
depth m (both s t) = max (depth m s) (depth m t)

-- the nodes on the longest path of the whole tree
abbrev pub height : Nodes → ℕ
height none = 0
height (node at s) = suc (height s)
height (both s t) = max (height s) (height t)
