-- Parents that say the same, by shorter ways.
use Rattle.std.specs.Prelude.{ℕ, ◌≡◌, ◌<◌, List, length, slice_index_or}
use Rattle.mw_term.specs.Types.{TermType}
use Rattle.mw_types.specs.Types.{Assignment}
use Rattle.mw_types.specs.Forest.{Low, Same}
use Rattle.mw_types.specs.Satisfying.{Means, Step}
use Rattle.mw_types.specs.declared.state.State.{State}

pub record Shorter (ps qs : List ℕ) (from at : ℕ) : Type 0 where
  pub low : Low qs
  pub long : length qs ≡ length ps
  pub inside : at < length ps
  pub roots : (i : ℕ) → slice_index_or ps i 0 ≡ i → slice_index_or qs i 0 ≡ i
  pub roots_from : (i : ℕ) → i < length ps → slice_index_or qs i 0 ≡ i → slice_index_or ps i 0 ≡ i
  -- for types, and for classifiers
  pub types_to : (v : ℕ → TermType) → Same ps v → Same qs v
  pub types_from : (v : ℕ → TermType) → Same qs v → Same ps v
  pub types_at : (v : ℕ → TermType) → Same ps v → v from ≡ v at
  pub classes_to : (v : ℕ → ℕ) → Same ps v → Same qs v
  pub classes_from : (v : ℕ → ℕ) → Same qs v → Same ps v
  pub classes_at : (v : ℕ → ℕ) → Same ps v → v from ≡ v at

-- a find: the state says the same, and a node has the value of its representative
pub record FindsRoot (s t : State) (i r : ℕ) : Type 0 where
  pub step : Step s t (λ a. a.ty i ≡ a.ty r)
  pub same : (a : Assignment) → Means s a → a.ty i ≡ a.ty r
