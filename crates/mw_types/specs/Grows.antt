-- More nodes.
use Rattle.std.specs.Prelude.{◌≡◌, ◌≤◌, length}
use Rattle.mw_types.specs.Equations.{Agree}
use Rattle.mw_types.specs.Types.{Assignment}
use Rattle.mw_types.specs.Satisfying.{Means, Sound}
use Rattle.mw_types.specs.declared.state.State.{State}

-- the second state has more nodes and says X of them; each solution of the first goes on to one of the second
pub record Grew (s t : State) (X : Assignment → Type 0) : Type 0 where
  pub sound : Sound t
  pub long : length s.parent.items ≤ length t.parent.items
  pub classifier_count : length t.classifier.items ≡ length s.classifier.items
  pub out : (a : Assignment) → Means t a → Means s a × X a
  pub more : (a : Assignment) → Means s a → (b : Assignment) × Agree (length s.parent.items) (length s.classifier.items)
      a b × Means t b
