-- Which program a surface program is once names are numbers: each rule has the premises of scope and of level, and no
-- other.
use Rattle.std.specs.Prelude.{ℕ, ◌≡◌, ℤ, Bool, true, false, ◌&&◌, IsTrue, List, [], ◌∷◌, ◌++◌, Some, None}
use Rattle.mw_term.specs.declared.term.Primitive.{Primitive as Prim}
use Rattle.mw_term.specs.Terms.{Expression, KernelType, num, truth, var, glob, fun, fix, app, bind, cond, pair, fst}
use Rattle.mw_term.specs.Terms.{snd, prim, bracket, escape, run, close, opened, lift, lift_b}
use Rattle.mw_term.specs.Programs.{Definition, value, kernel, PureProgram}
use Rattle.mw_grammar.specs.SurfaceTrees as surface
use Rattle.mw_grammar.specs.SurfaceTrees.{SurfaceTree, PureItem, let_item, kernel_item, PureSurface}
use Rattle.mw_scope.specs.declared.level.Level.{Level}
use Rattle.mw_scope.specs.declared.level.Level.TheVariants.{Live, Quoted}
use Rattle.mw_scope.specs.Scopes.{Binder, nearest, TopNames, name_of, lets_of, items_of}

-- Nameless tops binders m t e: with these top-level names, under these binders and at level m, the tree t is e.
pub data Nameless (tops : TopNames) : List Binder → Level → SurfaceTree → Expression → Type 0 where
  n_num : {g : List Binder} {m : Level} {n : ℤ} → Nameless tops g m (surface.num n) (num n)
  n_truth : {g : List Binder} {m : Level} {b : Bool} → Nameless tops g m (surface.truth b) (truth b)
  -- a name is that of its nearest binder, and is used at the binder's level
  n_var : {g : List Binder} {m : Level} {x : List ℕ} {at i : ℕ} → nearest g x ≡ Some (i, m)
      → Nameless tops g m (surface.used x at) (var i)
  -- a name without binder is that of an item, and is used at level 0
  n_glob : {g : List Binder} {x : List ℕ} {at i : ℕ} → nearest g x ≡ None → tops x ≡ Some i
      → Nameless tops g Live (surface.used x at) (glob i)
  -- the binders of functions and lets have the level where these stand
  n_fun : {g : List Binder} {m : Level} {x : List ℕ} {t : SurfaceTree} {e : Expression}
      → Nameless tops (record { name = x; level = m } ∷ g) m t e → Nameless tops g m (surface.fun x t) (fun e)
  -- of a recursive function the argument is the nearest binder, and its own name the next
  n_fix : {g : List Binder} {m : Level} {f x : List ℕ} {t : SurfaceTree} {e : Expression}
      → Nameless tops (record { name = x; level = m } ∷ record { name = f; level = m } ∷ g) m t e
      → Nameless tops g m (surface.fix f x t) (fix e)
  n_app : {g : List Binder} {m : Level} {s t : SurfaceTree} {d e : Expression} → Nameless tops g m s d
      → Nameless tops g m t e → Nameless tops g m (surface.app s t) (app d e)
  -- a let's name is not in scope in its definition
  n_bind : {g : List Binder} {m : Level} {x : List ℕ} {s t : SurfaceTree} {d e : Expression} → Nameless tops g m s d
      → Nameless tops (record { name = x; level = m } ∷ g) m t e
      → Nameless tops g m (surface.bind x s t) (bind d e)
  n_cond : {g : List Binder} {m : Level} {r s t : SurfaceTree} {c d e : Expression} → Nameless tops g m r c
      → Nameless tops g m s d → Nameless tops g m t e
      → Nameless tops g m (surface.cond r s t) (cond c d e)
  n_pair : {g : List Binder} {m : Level} {s t : SurfaceTree} {d e : Expression} → Nameless tops g m s d
      → Nameless tops g m t e → Nameless tops g m (surface.pair s t) (pair d e)
  n_fst : {g : List Binder} {m : Level} {t : SurfaceTree} {e : Expression} → Nameless tops g m t e
      → Nameless tops g m (surface.fst t) (fst e)
  n_snd : {g : List Binder} {m : Level} {t : SurfaceTree} {e : Expression} → Nameless tops g m t e
      → Nameless tops g m (surface.snd t) (snd e)
  n_prim : {g : List Binder} {m : Level} {p : Prim} {s t : SurfaceTree} {d e : Expression} → Nameless tops g m s d
      → Nameless tops g m t e → Nameless tops g m (surface.prim p s t) (prim p d e)
  -- a bracket stands at level 0 and its content at level 1, an escape at level 1 and its content at level 0
  n_bracket : {g : List Binder} {at : ℕ} {t : SurfaceTree} {e : Expression} → Nameless tops g Quoted t e
      → Nameless tops g Live (surface.bracket at t) (bracket e)
  n_escape : {g : List Binder} {at : ℕ} {t : SurfaceTree} {e : Expression} → Nameless tops g Live t e
      → Nameless tops g Quoted (surface.escape at t) (escape e)
  -- the other words of staging stand at level 0
  n_run : {g : List Binder} {at : ℕ} {k : KernelType} {t : SurfaceTree} {e : Expression} → Nameless tops g Live t e
      → Nameless tops g Live (surface.run at k t) (run k e)
  n_close : {g : List Binder} {at : ℕ} {t : SurfaceTree} {e : Expression} → Nameless tops g Live t e
      → Nameless tops g Live (surface.close at t) (close at e)
  n_open : {g : List Binder} {at : ℕ} {t : SurfaceTree} {e : Expression} → Nameless tops g Live t e
      → Nameless tops g Live (surface.opened at t) (opened e)
  n_lift : {g : List Binder} {at : ℕ} {t : SurfaceTree} {e : Expression} → Nameless tops g Live t e
      → Nameless tops g Live (surface.lift at t) (lift e)
  n_lift_b : {g : List Binder} {at : ℕ} {t : SurfaceTree} {e : Expression} → Nameless tops g Live t e
      → Nameless tops g Live (surface.lift_b at t) (lift_b e)

-- a syntactic value: a function, a literal or a pair of such
abbrev pub is_value : SurfaceTree → Bool
is_value (surface.num n) = true
is_value (surface.truth b) = true
is_value (surface.fun x e) = true
is_value (surface.fix f x e) = true
is_value (surface.pair a b) = is_value a && is_value b
is_value _ = false

-- after the items before it, an item is this definition: it sees the lets among them, and a let binds a value
pub data NamelessItem (before : List PureItem) : PureItem → Definition → Type 0 where
  a_let : {x : List ℕ} {at from : ℕ} {t : SurfaceTree} {e : Expression} → IsTrue (is_value t)
      → Nameless (lets_of before) [] Live t e → NamelessItem before (let_item x at from t) (value e)
  a_kernel : {x : List ℕ} {at : ℕ} {k : KernelType} {t : SurfaceTree} {e : Expression}
      → Nameless (lets_of before) [] Live t e → NamelessItem before (kernel_item x at k t) (kernel k e)

-- after the items before them, items are these definitions: each has a name that none before it has
pub data NamelessItems : List PureItem → List PureItem → List Definition → Type 0 where
  no_item : {before : List PureItem} → NamelessItems before [] []
  an_item : {before items : List PureItem} {item : PureItem} {d : Definition} {ds : List Definition}
      → items_of before (name_of item) ≡ None → NamelessItem before item d
      → NamelessItems (before ++ item ∷ []) items ds → NamelessItems before (item ∷ items) (d ∷ ds)

-- a surface program is this program; main sees all items
pub record IsNameless (s : PureSurface) (p : PureProgram) : Type 0 where
  pub items : NamelessItems [] s.items p.items
  pub result : p.result ≡ s.result
  pub body : Nameless (items_of s.items) [] Live s.body p.body
