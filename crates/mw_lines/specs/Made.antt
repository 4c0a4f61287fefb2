-- Types made from a root, and classifiers that stand in a type.
use Rattle.std.specs.Prelude.{ℕ, ◌≡◌, ◌≢◌}
use Rattle.mw_types.specs.Types.{TypeExpression, int_ty, bool_ty, unknown, pair_ty, function_ty, code_ty, closed_ty}
use Rattle.mw_types.specs.Types.{Substitution, apply}

-- a type made from a root: types are put for its unknowns, and classifiers for its classifiers
pub record IsMadeFrom (root t : TypeExpression) : Type 0 where
  pub by : Substitution
  pub gives : apply by root ≡ t

-- the classifier stands nowhere in the type
abbrev pub IsNotIn : ℕ → TypeExpression → Type 0
IsNotIn a int_ty = Unit {0}
IsNotIn a bool_ty = Unit {0}
IsNotIn a (unknown u) = Unit {0}
IsNotIn a (pair_ty s t) = IsNotIn a s × IsNotIn a t
IsNotIn a (function_ty s t) = IsNotIn a s × IsNotIn a t
IsNotIn a (code_ty c t) = (c ≢ a) × IsNotIn a t
IsNotIn a (closed_ty t) = IsNotIn a t
