-- What is kept of the classifiers that types name.
use Rattle.std.specs.Prelude.{ℕ, ◌≡◌, List, Option, Some, IsTrue, slice_get}
use Rattle.std.specs.BTreeSet.{BTreeSet, contains}
use Rattle.std.specs.Ordering.{nat_cmp}
use Rattle.mw_types.specs.Types.{TypeExpression, int_ty, bool_ty, unknown, pair_ty, function_ty, code_ty, closed_ty}
use Rattle.mw_types.specs.Types.{type_of}
use Rattle.mw_types.specs.Solutions.{Solution}
use Rattle.mw_types.specs.declared.types.Ty.{Ty}

-- the set has each classifier that the type names
abbrev pub HoldsAll : BTreeSet ℕ → TypeExpression → Type 0
HoldsAll s int_ty = Unit {0}
HoldsAll s bool_ty = Unit {0}
HoldsAll s (unknown u) = Unit {0}
HoldsAll s (pair_ty t r) = HoldsAll s t × HoldsAll s r
HoldsAll s (function_ty t r) = HoldsAll s t × HoldsAll s r
HoldsAll s (code_ty c t) = IsTrue (contains nat_cmp s c) × HoldsAll s t
HoldsAll s (closed_ty t) = HoldsAll s t

-- the set has all that it had, and each classifier that the type names
pub record Collects (old new : BTreeSet ℕ) (t : TypeExpression) : Type 0 where
  pub kept : (c : ℕ) → IsTrue (contains nat_cmp old c) → IsTrue (contains nat_cmp new c)
  pub holds : HoldsAll new t

-- a set that is kept for a tree has each classifier that the tree's types name
abbrev pub Knows : Solution → List (Option (BTreeSet ℕ)) → Type 0
Knows s known = (r v : ℕ) (x : BTreeSet ℕ) (t : Ty) → slice_get known r ≡ Some (Some x) → slice_get s.roots v ≡ Some r
    → slice_get s.types v ≡ Some t → HoldsAll x (type_of t)
