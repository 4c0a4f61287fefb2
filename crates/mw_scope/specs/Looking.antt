-- The walk's own way to look binders up: of each name the nearest one, by its number from the outermost on.
use Rattle.std.specs.Prelude.{ℕ, suc, ◌-◌, List, [], ◌∷◌, ◌++◌, length, Option, Some, None, cond}
use Rattle.std.specs.Str.{bytes_eq}
use Rattle.mw_term.specs.Terms.{Expression}
use Rattle.mw_term.specs.Terms as nameless
use Rattle.mw_grammar.specs.SurfaceTrees.{SurfaceTree, num, truth, used, fun, fix, app, bind, cond as cond_tree, pair}
use Rattle.mw_grammar.specs.SurfaceTrees.{fst, snd, prim, bracket, escape, run, close, opened, lift, lift_b}
use Rattle.mw_scope.specs.declared.level.Level.{Level}
use Rattle.mw_scope.specs.declared.level.Level.TheVariants.{Live, Quoted}
use Rattle.mw_scope.specs.declared.fault.Fault.{Fault}
use Rattle.mw_scope.specs.Scopes.{Binder, TopNames}
use Rattle.mw_scope.specs.Faults.{only_live, only_quoted, faults_of_use}

abbrev pub Look : Type 0
Look = List ℕ → Option (ℕ × Level)

-- the name stands for this binder, and the others for what they stood for
abbrev pub rebound : Look → List ℕ → Option (ℕ × Level) → Look
rebound look x bound y = cond (bytes_eq y x) bound (look y)

-- of binders with the nearest first, the nearest one of a name: its number from the outermost on, and its level
abbrev pub numbered : List Binder → Look
numbered [] x = None
numbered (b ∷ binders) x = cond (bytes_eq x b.name) (Some (length binders, b.level)) (numbered binders x)

-- the expression of a name in use under n binders; one that is unbound means nothing
abbrev pub use_by : ℕ → Option (ℕ × Level) → Option ℕ → Expression
use_by n (Some p) top = nameless.var (n - p.0 - 1)
use_by n None (Some i) = nameless.glob i
use_by n None None = nameless.var 0

-- the expression that the walk makes of a tree under n binders
abbrev pub named_by : TopNames → Look → ℕ → Level → SurfaceTree → Expression
named_by tops look n m (num i) = nameless.num i
named_by tops look n m (truth b) = nameless.truth b
named_by tops look n m (used x at) = use_by n (look x) (tops x)
named_by tops look n m (fun x e) = nameless.fun (named_by tops (rebound look x (Some (n, m))) (suc n) m e)
named_by tops look n m (fix f x e) =
    nameless.fix (named_by tops (rebound (rebound look f (Some (n, m))) x (Some (suc n, m))) (suc (suc n)) m e)
named_by tops look n m (app f a) = nameless.app (named_by tops look n m f) (named_by tops look n m a)
named_by tops look n m (bind x d e) = nameless.bind (named_by tops look n m d)
    (named_by tops (rebound look x (Some (n, m))) (suc n) m e)
named_by tops look n m (cond_tree c a b) = nameless.cond (named_by tops look n m c) (named_by tops look n m a)
    (named_by tops look n m b)
named_by tops look n m (pair a b) = nameless.pair (named_by tops look n m a) (named_by tops look n m b)
named_by tops look n m (fst e) = nameless.fst (named_by tops look n m e)
named_by tops look n m (snd e) = nameless.snd (named_by tops look n m e)
named_by tops look n m (prim p a b) = nameless.prim p (named_by tops look n m a) (named_by tops look n m b)
named_by tops look n m (bracket at e) = nameless.bracket (named_by tops look n Quoted e)
named_by tops look n m (escape at e) = nameless.escape (named_by tops look n Live e)
named_by tops look n m (run at k e) = nameless.run k (named_by tops look n m e)
named_by tops look n m (close at e) = nameless.close at (named_by tops look n m e)
named_by tops look n m (opened at e) = nameless.opened (named_by tops look n m e)
named_by tops look n m (lift at e) = nameless.lift (named_by tops look n m e)
named_by tops look n m (lift_b at e) = nameless.lift_b (named_by tops look n m e)

-- the faults that it finds there
abbrev pub faults_by : TopNames → Look → ℕ → Level → SurfaceTree → List Fault
faults_by tops look n m (num i) = []
faults_by tops look n m (truth b) = []
faults_by tops look n m (used x at) = faults_of_use (look x) (tops x) m at
faults_by tops look n m (fun x e) = faults_by tops (rebound look x (Some (n, m))) (suc n) m e
faults_by tops look n m (fix f x e) = faults_by tops (rebound (rebound look f (Some (n, m))) x (Some (suc n, m)))
    (suc (suc n)) m e
faults_by tops look n m (app f a) = faults_by tops look n m f ++ faults_by tops look n m a
faults_by tops look n m (bind x d e) = faults_by tops look n m d ++ faults_by tops (rebound look x (Some (n, m)))
    (suc n) m e
faults_by tops look n m (cond_tree c a b) = faults_by tops look n m c
    ++ (faults_by tops look n m a ++ faults_by tops look n m b)
faults_by tops look n m (pair a b) = faults_by tops look n m a ++ faults_by tops look n m b
faults_by tops look n m (fst e) = faults_by tops look n m e
faults_by tops look n m (snd e) = faults_by tops look n m e
faults_by tops look n m (prim p a b) = faults_by tops look n m a ++ faults_by tops look n m b
faults_by tops look n m (bracket at e) = only_live m at ++ faults_by tops look n Quoted e
faults_by tops look n m (escape at e) = only_quoted m at ++ faults_by tops look n Live e
faults_by tops look n m (run at k e) = only_live m at ++ faults_by tops look n m e
faults_by tops look n m (close at e) = only_live m at ++ faults_by tops look n m e
faults_by tops look n m (opened at e) = only_live m at ++ faults_by tops look n m e
faults_by tops look n m (lift at e) = only_live m at ++ faults_by tops look n m e
faults_by tops look n m (lift_b at e) = only_live m at ++ faults_by tops look n m e
