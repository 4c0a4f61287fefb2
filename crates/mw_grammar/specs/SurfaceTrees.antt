-- Trees of the surface syntax as pure data, and the views from the program's trees to them.
use Rattle.std.specs.Prelude.{ℕ, ℤ, Bool, List, map}
use Rattle.mw_term.specs.declared.term.Primitive.{Primitive as Prim}
use Rattle.mw_term.specs.Terms.{GroundType, KernelType, ground_of, kernel_type_of}
use Rattle.mw_grammar.specs.declared.tree.Tree.{Tree}
use Rattle.mw_grammar.specs.declared.tree.Tree.TheVariants.{Int, Bool as Truth, Used, Fun', Rec', App', Let', If'}
use Rattle.mw_grammar.specs.declared.tree.Tree.TheVariants.{Pair', Fst', Snd', Prim' as Prim-Prim', Bracket', Escape'}
use Rattle.mw_grammar.specs.declared.tree.Tree.TheVariants.{Run', CloseCode', OpenCode', Lift', LiftB'}
use Rattle.mw_grammar.specs.declared.tree.SurfaceItem.{SurfaceItem}
use Rattle.mw_grammar.specs.declared.tree.SurfaceItem.TheVariants.{Let as LetItem, Kernel as KernelItem}
use Rattle.mw_grammar.specs.declared.tree.Surface.{Surface}

-- An expression with its names, which are lists of bytes. A number at is the offset of the name, bracket, escape or
-- word.
pub data SurfaceTree : Type 0 where
  num : (n : ℤ) → SurfaceTree
  truth : (b : Bool) → SurfaceTree
  used : (x : List ℕ) (at : ℕ) → SurfaceTree
  fun : (x : List ℕ) (e : SurfaceTree) → SurfaceTree
  fix : (f x : List ℕ) (e : SurfaceTree) → SurfaceTree
  app : (f a : SurfaceTree) → SurfaceTree
  bind : (x : List ℕ) (d e : SurfaceTree) → SurfaceTree
  cond : (c a b : SurfaceTree) → SurfaceTree
  pair : (a b : SurfaceTree) → SurfaceTree
  fst : (e : SurfaceTree) → SurfaceTree
  snd : (e : SurfaceTree) → SurfaceTree
  prim : (p : Prim) (a b : SurfaceTree) → SurfaceTree
  bracket : (at : ℕ) (e : SurfaceTree) → SurfaceTree
  escape : (at : ℕ) (e : SurfaceTree) → SurfaceTree
  run : (at : ℕ) (k : KernelType) (e : SurfaceTree) → SurfaceTree
  close : (at : ℕ) (e : SurfaceTree) → SurfaceTree
  opened : (at : ℕ) (e : SurfaceTree) → SurfaceTree
  lift : (at : ℕ) (e : SurfaceTree) → SurfaceTree
  lift_b : (at : ℕ) (e : SurfaceTree) → SurfaceTree

-- A top-level item: the name with its offset and what it binds. A let has the offset of the first token after its `=`.
pub data PureItem : Type 0 where
  let_item : (x : List ℕ) (at from : ℕ) (e : SurfaceTree) → PureItem
  kernel_item : (x : List ℕ) (at : ℕ) (k : KernelType) (e : SurfaceTree) → PureItem

pub record PureSurface : Type 0 where
  pub items : List PureItem
  pub result : GroundType
  pub body : SurfaceTree

abbrev pub tree_of : Tree → SurfaceTree
tree_of (Int n) = num n
tree_of (Truth b) = truth b
tree_of (Used x) = used x.name x.at
tree_of (Fun' x p e) = fun x (tree_of e)
tree_of (Rec' f x p e) = fix f x (tree_of e)
tree_of (App' p f q a) = app (tree_of f) (tree_of a)
tree_of (Let' x p d q e) = bind x (tree_of d) (tree_of e)
tree_of (If' p c q a r b) = cond (tree_of c) (tree_of a) (tree_of b)
tree_of (Pair' p a q b) = pair (tree_of a) (tree_of b)
tree_of (Fst' p e) = fst (tree_of e)
tree_of (Snd' p e) = snd (tree_of e)
tree_of (Prim-Prim' o p a q b) = prim o (tree_of a) (tree_of b)
tree_of (Bracket' at p e) = bracket at (tree_of e)
tree_of (Escape' at p e) = escape at (tree_of e)
tree_of (Run' at k p e) = run at (kernel_type_of k) (tree_of e)
tree_of (CloseCode' at p e) = close at (tree_of e)
tree_of (OpenCode' at p e) = opened at (tree_of e)
tree_of (Lift' at p e) = lift at (tree_of e)
tree_of (LiftB' at p e) = lift_b at (tree_of e)

abbrev pub item_of : SurfaceItem → PureItem
item_of (LetItem x from e) = let_item x.name x.at from (tree_of e)
item_of (KernelItem x k e) = kernel_item x.name x.at (kernel_type_of k) (tree_of e)

abbrev pub surface_of : Surface → PureSurface
surface_of s = record { items = map item_of s.items; result = ground_of s.result; body = tree_of s.body }
