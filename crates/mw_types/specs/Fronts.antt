-- Fronts of equations as the solver judges them: by whether some solution is small.
use Rattle.std.specs.Prelude.{ℕ, ◌≤◌, ◌<◌, List, take, length}
use Rattle.mw_types.specs.Types.{Assignment, size}
use Rattle.mw_types.specs.Equations.{TypeEquation, Solves, Solvable}

-- some solution has no type of over 10,000 nodes
pub record Small (n : ℕ) (es : List TypeEquation) : Type 0 where
  pub by : Assignment
  pub solves : Solves by es
  pub small : (u : ℕ) → u < n → size (by.ty u) ≤ 10000

-- the front of k equations has no solution, and each shorter one a small one
pub record UnsolvableAt (n : ℕ) (es : List TypeEquation) (k : ℕ) : Type 0 where
  pub within : k ≤ length es
  pub shorter : (j : ℕ) → j < k → Small n (take j es)
  pub fault : Solvable (take k es) → ⊥

-- the front of k equations has solutions, but no small one, and each shorter one has
pub record TooBigAt (n : ℕ) (es : List TypeEquation) (k : ℕ) : Type 0 where
  pub within : k ≤ length es
  pub shorter : (j : ℕ) → j < k → Small n (take j es)
  pub solvable : Solvable (take k es)
  pub fault : Small n (take k es) → ⊥
