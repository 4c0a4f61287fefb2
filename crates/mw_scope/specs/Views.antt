-- The views from what the walk keeps to names, and the forms of its functions.
use Rattle.std.specs.Prelude.{ℕ, ◌≡◌, ◌+◌, ◌*◌, ◌≤◌, List, [], ◌∷◌, ◌++◌, length, Option}
use Rattle.std.specs.Option.{option_flatten}
use Rattle.std.specs.Str.{bytes_eq}
use Rattle.indexmap.specs.IndexMap.{get_by}
use Rattle.mw_term.specs.Terms.{Expression}
use Rattle.mw_grammar.specs.SurfaceTrees.{PureItem, SurfaceTree, fun, fix, bind, bracket, escape, run, close, opened}
use Rattle.mw_grammar.specs.SurfaceTrees.{lift, lift_b}
use Rattle.mw_grammar.specs.SurfaceDepth.{surface_depth}
use Rattle.mw_scope.specs.declared.binders.Binders.{Binders}
use Rattle.mw_scope.specs.declared.level.Level.{Level}
use Rattle.mw_scope.specs.declared.names.Names.{Names}
use Rattle.mw_scope.specs.declared.top_names.TopNames.{TopNames}
use Rattle.mw_scope.specs.declared.fault.Fault.{Fault}
use Rattle.mw_scope.specs.Scopes.{lets_of, items_of}
use Rattle.mw_scope.specs.Looking.{named_by, faults_by}

-- the nearest binder of a name
abbrev pub binder_at : Binders → List ℕ → Option (ℕ × Level)
binder_at binders x = option_flatten (get_by (λ k. bytes_eq x k.items) binders.nearest)

-- the place of a name among top-level names
abbrev pub place_at : TopNames → List ℕ → Option ℕ
place_at tops x = get_by (λ k. bytes_eq x k.items) tops.places

-- the expression and the faults of a tree at a level where these names and binders are in scope
abbrev pub named_here : TopNames → Binders → Level → SurfaceTree → Expression
named_here tops binders m t = named_by (place_at tops) (binder_at binders) binders.count m t

abbrev pub faults_here : TopNames → Binders → Level → SurfaceTree → List Fault
faults_here tops binders m t = faults_by (place_at tops) (binder_at binders) binders.count m t

-- at most two binders come with each node of the tree, and then there are no more than 400
abbrev pub HasRoom : Binders → SurfaceTree → Type 0
HasRoom binders t = binders.count + 2 * surface_depth t ≤ 400

-- the same binders are in scope
pub record SameBinders (old new : Binders) : Type 0 where
  pub bound : binder_at new ≡ binder_at old
  pub count : new.count ≡ old.count

-- a function or a let
abbrev pub Binds : SurfaceTree → Type 0
Binds (fun x e) = Unit {0}
Binds (fix f x e) = Unit {0}
Binds (bind x d e) = Unit {0}
Binds _ = ⊥

-- a form of staging
abbrev pub IsStaging : SurfaceTree → Type 0
IsStaging (bracket at e) = Unit {0}
IsStaging (escape at e) = Unit {0}
IsStaging (run at k e) = Unit {0}
IsStaging (close at e) = Unit {0}
IsStaging (opened at e) = Unit {0}
IsStaging (lift at e) = Unit {0}
IsStaging (lift_b at e) = Unit {0}
IsStaging _ = ⊥

-- the names are those of these items
pub record Knows (names : Names) (items : List PureItem) : Type 0 where
  pub lets : (x : List ℕ) → place_at names.lets x ≡ lets_of items x
  pub all : (x : List ℕ) → place_at names.all x ≡ items_of items x

-- to the names of as many items as the index says, the name of this one was added
abbrev pub AddsName : Names → Names → PureItem → ℕ → Type 0
AddsName old new item index = (before : List PureItem) → Knows old before → length before ≡ index
    → Knows new (before ++ item ∷ [])
