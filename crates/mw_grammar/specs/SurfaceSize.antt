-- The nodes of a surface tree, the short forms unfolded. Types are not counted.
use Rattle.std.specs.Prelude.{ℕ, ◌+◌, ◌*◌, ◌≤◌, List, [], ◌∷◌, length}
use Rattle.mw_lex.specs.Tokens.{PureToken}
use Rattle.mw_grammar.specs.SurfaceTrees.{SurfaceTree, num, truth, used, fun, fix, app, bind, cond, pair, fst, snd}
use Rattle.mw_grammar.specs.SurfaceTrees.{prim, bracket, escape, run, close, opened, lift, lift_b, PureItem}
use Rattle.mw_grammar.specs.SurfaceTrees.{PureSurface}
use Rattle.mw_grammar.specs.SurfaceDepth.{bound_tree}

-- an expression
abbrev pub tree_size : SurfaceTree → ℕ
tree_size (num n) = 1
tree_size (truth b) = 1
tree_size (used x at) = 1
tree_size (fun x e) = tree_size e + 1
tree_size (fix f x e) = tree_size e + 1
tree_size (app f a) = tree_size f + tree_size a + 1
tree_size (bind x d e) = tree_size d + tree_size e + 1
tree_size (cond c a b) = tree_size c + tree_size a + tree_size b + 1
tree_size (pair a b) = tree_size a + tree_size b + 1
tree_size (fst e) = tree_size e + 1
tree_size (snd e) = tree_size e + 1
tree_size (prim p a b) = tree_size a + tree_size b + 1
tree_size (bracket at e) = tree_size e + 1
tree_size (escape at e) = tree_size e + 1
tree_size (run at k e) = tree_size e + 1
tree_size (close at e) = tree_size e + 1
tree_size (opened at e) = tree_size e + 1
tree_size (lift at e) = tree_size e + 1
tree_size (lift_b at e) = tree_size e + 1

-- what the items bind
abbrev pub items_size : List PureItem → ℕ
items_size [] = 0
items_size (i ∷ items) = tree_size (bound_tree i) + items_size items

-- what the items bind, and main
abbrev pub surface_size : PureSurface → ℕ
surface_size s = items_size s.items + tree_size s.body

-- at most three nodes for each token that it was read from
abbrev pub IsSparse : List PureToken → PureSurface → Type 0
IsSparse tokens s = surface_size s ≤ 3 * length tokens
