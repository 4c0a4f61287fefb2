-- What names stand for: binders inside an expression, and items of the top level.
use Rattle.std.specs.Prelude.{ℕ, suc, List, [], ◌∷◌, Option, Some, None, cond}
use Rattle.std.specs.Option.{option_map}
use Rattle.std.specs.Str.{bytes_eq}
use Rattle.mw_grammar.specs.SurfaceTrees.{PureItem, let_item, kernel_item}
use Rattle.mw_scope.specs.declared.level.Level.{Level}

-- a binder in scope: its name, and the level of its function or let
pub record Binder : Type 0 where
  pub name : List ℕ
  pub level : Level

-- of binders with the nearest first, the nearest one of a name: how many stand before it, and its level
abbrev pub nearest : List Binder → List ℕ → Option (ℕ × Level)
nearest [] x = None
nearest (b ∷ binders) x = cond (bytes_eq x b.name) (Some (0, b.level))
    (option_map (λ p. (suc p.0, p.1)) (nearest binders x))

-- the top-level names in scope: of a name, the item that it stands for
abbrev pub TopNames : Type 0
TopNames = List ℕ → Option ℕ

abbrev pub name_of : PureItem → List ℕ
name_of (let_item x at from e) = x
name_of (kernel_item x at k e) = x

-- the names that an item sees after these items: those of lets
abbrev pub lets_of : List PureItem → TopNames
lets_of [] x = None
lets_of (let_item y at from e ∷ items) x = cond (bytes_eq x y) (Some 0) (option_map suc (lets_of items x))
lets_of (kernel_item y at k e ∷ items) x = option_map suc (lets_of items x)

-- the names that main sees after these items: all
abbrev pub items_of : List PureItem → TopNames
items_of [] x = None
items_of (item ∷ items) x = cond (bytes_eq x (name_of item)) (Some 0) (option_map suc (items_of items x))
