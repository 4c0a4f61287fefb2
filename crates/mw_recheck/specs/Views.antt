-- The views from the types of the code to levels, binders and what names have.
use Rattle.std.specs.Prelude.{ℕ, Bool, true, false, ◌==◌, if◌then◌else◌, List, [], ◌∷◌, map}
use Rattle.mw_term.specs.Types.{Level, live, under}
use Rattle.mw_recheck.specs.Judging.{PlacedBinder, plain_at, quoted_at}
use Rattle.mw_recheck.specs.declared.scope.Level.{Level as RustLevel}
use Rattle.mw_recheck.specs.declared.scope.Level.TheVariants.{Live, Under}
use Rattle.mw_recheck.specs.declared.scope.Binder.{Binder}
use Rattle.mw_recheck.specs.declared.scope.Binder.TheVariants.{Plain, Quoted}
use Rattle.mw_recheck.specs.declared.scope.Scope.{Scope}
use Rattle.mw_recheck.specs.declared.scope.Scope.TheVariants.{Empty, Bound'}

abbrev pub level_at : RustLevel → Level
level_at Live = live
level_at (Under c) = under c

abbrev pub binder_of : Binder → PlacedBinder
binder_of (Plain i) = plain_at i
binder_of (Quoted c i) = quoted_at c i

abbrev pub binders_of : Scope → List PlacedBinder
binders_of Empty = []
binders_of (Bound' b p s) = binder_of b ∷ binders_of s

-- the places of binders' types
abbrev pub place_of : PlacedBinder → ℕ
place_of (plain_at i) = i
place_of (quoted_at c i) = i

abbrev pub places_of : List PlacedBinder → List ℕ
places_of g = map place_of g

-- a binder stands under the classifier
abbrev pub is_under : ℕ → PlacedBinder → Bool
is_under a (plain_at i) = false
is_under a (quoted_at c i) = c == a

abbrev pub is_named : ℕ → List PlacedBinder → Bool
is_named a [] = false
is_named a (x ∷ g) = if is_under a x then true else is_named a g
