-- The faults that stand in a surface program, and which of them is the first.
use Rattle.std.specs.Prelude.{ℕ, Bool, true, false, ◌≡◌, ◌<◌, ◌≤◌, ◌⊎◌, List, [], ◌∷◌, ◌++◌, Option, Some, None, All}
use Rattle.std.specs.Prelude.{Contains}
use Rattle.mw_term.specs.declared.refusal.Refusal.{Refusal}
use Rattle.mw_term.specs.declared.refusal.Refusal.TheVariants as refusal
use Rattle.mw_grammar.specs.SurfaceTrees.{SurfaceTree, num, truth, used, fun, fix, app, bind, cond as cond_tree, pair}
use Rattle.mw_grammar.specs.SurfaceTrees.{fst, snd, prim, bracket, escape, run, close, opened, lift, lift_b, PureItem}
use Rattle.mw_grammar.specs.SurfaceTrees.{let_item, kernel_item, PureSurface}
use Rattle.mw_scope.specs.declared.level.Level.{Level}
use Rattle.mw_scope.specs.declared.level.Level.TheVariants.{Live, Quoted}
use Rattle.mw_scope.specs.declared.fault.Fault.{Fault}
use Rattle.mw_scope.specs.declared.fault.Fault.TheVariants.{Unbound, Twice, NotValue, WrongLevel}
use Rattle.mw_scope.specs.Scopes.{Binder, nearest, TopNames, lets_of, items_of}
use Rattle.mw_scope.specs.Nameless.{is_value}

-- what stands at this place belongs at level 0, or at level 1
abbrev pub only_live : Level → ℕ → List Fault
only_live Live at = []
only_live Quoted at = WrongLevel at ∷ []

abbrev pub only_quoted : Level → ℕ → List Fault
only_quoted Live at = WrongLevel at ∷ []
only_quoted Quoted at = []

-- what stands at this place belongs at its binder's level
abbrev pub only_at : Level → Level → ℕ → List Fault
only_at Live m at = only_live m at
only_at Quoted m at = only_quoted m at

-- the faults of a name in use: by its nearest binder, else by its item
abbrev pub faults_of_use : Option (ℕ × Level) → Option ℕ → Level → ℕ → List Fault
faults_of_use (Some p) top m at = only_at p.1 m at
faults_of_use None (Some i) m at = only_live m at
faults_of_use None None m at = Unbound at ∷ []

-- the faults of a tree with these top-level names, under these binders, at level m
abbrev pub faults_in : TopNames → List Binder → Level → SurfaceTree → List Fault
faults_in tops g m (num n) = []
faults_in tops g m (truth b) = []
faults_in tops g m (used x at) = faults_of_use (nearest g x) (tops x) m at
faults_in tops g m (fun x e) = faults_in tops (record { name = x; level = m } ∷ g) m e
faults_in tops g m (fix f x e) = faults_in tops (record { name = x; level = m } ∷ record { name = f; level = m } ∷ g) m
    e
faults_in tops g m (app f a) = faults_in tops g m f ++ faults_in tops g m a
faults_in tops g m (bind x d e) = faults_in tops g m d ++ faults_in tops (record { name = x; level = m } ∷ g) m e
faults_in tops g m (cond_tree c a b) = faults_in tops g m c ++ (faults_in tops g m a ++ faults_in tops g m b)
faults_in tops g m (pair a b) = faults_in tops g m a ++ faults_in tops g m b
faults_in tops g m (fst e) = faults_in tops g m e
faults_in tops g m (snd e) = faults_in tops g m e
faults_in tops g m (prim p a b) = faults_in tops g m a ++ faults_in tops g m b
faults_in tops g m (bracket at e) = only_live m at ++ faults_in tops g Quoted e
faults_in tops g m (escape at e) = only_quoted m at ++ faults_in tops g Live e
faults_in tops g m (run at k e) = only_live m at ++ faults_in tops g m e
faults_in tops g m (close at e) = only_live m at ++ faults_in tops g m e
faults_in tops g m (opened at e) = only_live m at ++ faults_in tops g m e
faults_in tops g m (lift at e) = only_live m at ++ faults_in tops g m e
faults_in tops g m (lift_b at e) = only_live m at ++ faults_in tops g m e

-- the faults of a top-level name at this place that stands for an item already, or doesn't
abbrev pub faults_of_name : Option ℕ → ℕ → List Fault
faults_of_name (Some i) at = Twice at ∷ []
faults_of_name None at = []

-- the faults of a let whose definition, which begins at this place, is a value or isn't
abbrev pub faults_of_value : Bool → ℕ → List Fault
faults_of_value true from = []
faults_of_value false from = NotValue from ∷ []

-- the faults of an item, by the lets before it, which it sees, and by all items before it
abbrev pub faults_of_item : TopNames → TopNames → PureItem → List Fault
faults_of_item lets all (let_item x at from e) = faults_of_name (all x) at
    ++ (faults_of_value (is_value e) from ++ faults_in lets [] Live e)
faults_of_item lets all (kernel_item x at k e) = faults_of_name (all x) at ++ faults_in lets [] Live e

-- the faults of items after the items before them
abbrev pub faults_of_items : List PureItem → List PureItem → List Fault
faults_of_items before [] = []
faults_of_items before (item ∷ items) = faults_of_item (lets_of before) (items_of before) item
    ++ faults_of_items (before ++ item ∷ []) items

-- all faults of a program; main sees all items
abbrev pub faults_of : PureSurface → List Fault
faults_of s = faults_of_items [] s.items ++ faults_in (items_of s.items) [] Live s.body

-- where a fault stands
abbrev pub place_of : Fault → ℕ
place_of (Unbound at) = at
place_of (Twice at) = at
place_of (NotValue at) = at
place_of (WrongLevel at) = at

-- its number among the refusals
abbrev pub number_of : Fault → ℕ
number_of (Unbound at) = 8
number_of (Twice at) = 9
number_of (NotValue at) = 10
number_of (WrongLevel at) = 11

-- the refusal for it
abbrev pub refusal_of : Fault → Refusal
refusal_of (Unbound at) = refusal.Unbound at
refusal_of (Twice at) = refusal.Twice at
refusal_of (NotValue at) = refusal.NotValue at
refusal_of (WrongLevel at) = refusal.Level at

-- the first stands at an earlier place, or at the same one with a number that isn't larger
abbrev pub IsNoLater : Fault → Fault → Type 0
IsNoLater f g = (place_of f < place_of g) ⊎ ((place_of f ≡ place_of g) × (number_of f ≤ number_of g))

-- it is one of the faults, and none of them comes before it
pub record IsFirst (faults : List Fault) (f : Fault) : Type 0 where
  pub stands : Contains faults f
  pub first : All (IsNoLater f) faults
