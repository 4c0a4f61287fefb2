-- The depth of a surface tree, parentheses aside.
use Rattle.std.specs.Prelude.{ℕ, suc, ◌≤◌, max, List, [], ◌∷◌, length}
use Rattle.mw_grammar.specs.SurfaceTrees.{SurfaceTree, num, truth, used, fun, fix, app, bind, cond, pair, fst, snd}
use Rattle.mw_grammar.specs.SurfaceTrees.{prim, bracket, escape, run, close, opened, lift, lift_b, PureItem, let_item}
use Rattle.mw_grammar.specs.SurfaceTrees.{kernel_item, PureSurface}

-- the nodes on the longest path
abbrev pub surface_depth : SurfaceTree → ℕ
surface_depth (num n) = 1
surface_depth (truth b) = 1
surface_depth (used x at) = 1
surface_depth (fun x e) = suc (surface_depth e)
surface_depth (fix f x e) = suc (surface_depth e)
surface_depth (app f a) = suc (max (surface_depth f) (surface_depth a))
surface_depth (bind x d e) = suc (max (surface_depth d) (surface_depth e))
surface_depth (cond c a b) = suc (max (surface_depth c) (max (surface_depth a) (surface_depth b)))
surface_depth (pair a b) = suc (max (surface_depth a) (surface_depth b))
surface_depth (fst e) = suc (surface_depth e)
surface_depth (snd e) = suc (surface_depth e)
surface_depth (prim p a b) = suc (max (surface_depth a) (surface_depth b))
surface_depth (bracket at e) = suc (surface_depth e)
surface_depth (escape at e) = suc (surface_depth e)
surface_depth (run at k e) = suc (surface_depth e)
surface_depth (close at e) = suc (surface_depth e)
surface_depth (opened at e) = suc (surface_depth e)
surface_depth (lift at e) = suc (surface_depth e)
surface_depth (lift_b at e) = suc (surface_depth e)

abbrev pub bound_tree : PureItem → SurfaceTree
bound_tree (let_item x at from e) = e
bound_tree (kernel_item x at k e) = e

abbrev pub AreShallow : List PureItem → Type 0
AreShallow [] = Unit {0}
AreShallow (item ∷ items) = (surface_depth (bound_tree item) ≤ 200) × AreShallow items

-- what reading keeps of a program: at most 1,000 items, and no tree deeper than 200
pub record IsShallow (s : PureSurface) : Type 0 where
  pub count : length s.items ≤ 1000
  pub items : AreShallow s.items
  pub body : surface_depth s.body ≤ 200
