-- The program that a walk builds while it looks for faults. Where a name is unbound it means nothing.
use Rattle.std.specs.Prelude.{ℕ, List, [], ◌∷◌, ◌++◌, Option, Some, None}
use Rattle.mw_term.specs.Terms.{Expression, num, truth, var, glob, fun, fix, app, bind, cond, pair, fst, snd, prim}
use Rattle.mw_term.specs.Terms.{bracket, escape, run, close, opened, lift, lift_b}
use Rattle.mw_term.specs.Programs.{Definition, value, kernel, PureProgram}
use Rattle.mw_grammar.specs.SurfaceTrees as surface
use Rattle.mw_grammar.specs.SurfaceTrees.{SurfaceTree, PureItem, let_item, kernel_item, PureSurface}
use Rattle.mw_scope.specs.declared.level.Level.{Level}
use Rattle.mw_scope.specs.declared.level.Level.TheVariants.{Live, Quoted}
use Rattle.mw_scope.specs.Scopes.{Binder, nearest, TopNames, lets_of, items_of}

abbrev pub named_use : Option (ℕ × Level) → Option ℕ → Expression
named_use (Some p) top = var p.0
named_use None (Some i) = glob i
named_use None None = var 0

abbrev pub named : TopNames → List Binder → Level → SurfaceTree → Expression
named tops g m (surface.num n) = num n
named tops g m (surface.truth b) = truth b
named tops g m (surface.used x at) = named_use (nearest g x) (tops x)
named tops g m (surface.fun x e) = fun (named tops (record { name = x; level = m } ∷ g) m e)
named tops g m (surface.fix f x e) =
    fix (named tops (record { name = x; level = m } ∷ record { name = f; level = m } ∷ g) m e)
named tops g m (surface.app f a) = app (named tops g m f) (named tops g m a)
named tops g m (surface.bind x d e) = bind (named tops g m d) (named tops (record { name = x; level = m } ∷ g) m e)
named tops g m (surface.cond c a b) = cond (named tops g m c) (named tops g m a) (named tops g m b)
named tops g m (surface.pair a b) = pair (named tops g m a) (named tops g m b)
named tops g m (surface.fst e) = fst (named tops g m e)
named tops g m (surface.snd e) = snd (named tops g m e)
named tops g m (surface.prim p a b) = prim p (named tops g m a) (named tops g m b)
named tops g m (surface.bracket at e) = bracket (named tops g Quoted e)
named tops g m (surface.escape at e) = escape (named tops g Live e)
named tops g m (surface.run at k e) = run k (named tops g m e)
named tops g m (surface.close at e) = close at (named tops g m e)
named tops g m (surface.opened at e) = opened (named tops g m e)
named tops g m (surface.lift at e) = lift (named tops g m e)
named tops g m (surface.lift_b at e) = lift_b (named tops g m e)

abbrev pub named_item : TopNames → PureItem → Definition
named_item lets (let_item x at from e) = value (named lets [] Live e)
named_item lets (kernel_item x at k e) = kernel k (named lets [] Live e)

abbrev pub named_items : List PureItem → List PureItem → List Definition
named_items before [] = []
named_items before (item ∷ items) = named_item (lets_of before) item ∷ named_items (before ++ item ∷ []) items

abbrev pub named_program : PureSurface → PureProgram
named_program s =
    record { items = named_items [] s.items; result = s.result; body = named (items_of s.items) [] Live s.body }
