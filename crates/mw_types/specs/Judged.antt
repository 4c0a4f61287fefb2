-- A front's verdict.
use Rattle.std.specs.Prelude.{ℕ, ◌≡◌, ◌≢◌, ◌<◌, ◌≤◌, List, [], length, slice_index_or, take}
use Rattle.mw_types.specs.Equations.{TypeEquation, Solves, Solvable, Agree, equations_of}
use Rattle.mw_types.specs.Fronts.{Small, UnsolvableAt, TooBigAt}
use Rattle.mw_types.specs.Types.{Assignment}
use Rattle.mw_types.specs.Satisfying.{IsShaped, Means, Sound}
use Rattle.mw_types.specs.declared.state.State.{State}
use Rattle.mw_types.specs.declared.judging.Verdict.{Verdict}
use Rattle.mw_types.specs.declared.judging.Verdict.TheVariants.{Fine, Clash, Cycle, TooBig}
use Rattle.mw_types.specs.declared.judging.Judgement.{Judgement}
use Rattle.mw_types.specs.declared.types.Equation.{Equation}
use Rattle.mw_types.specs.declared.types.SolveFault.{SolveFault}
use Rattle.mw_types.specs.declared.types.SolveFault.TheVariants.{Unsolvable, TooBig as TooBigFront}
use Rattle.mw_types.specs.declared.types.SolveFault.TheVariants.{Memory}

-- what a verdict says of equations
abbrev pub Judges : ℕ → List TypeEquation → Verdict → Type 0
Judges n es Fine = Small n es
Judges n es Clash = Solvable es → ⊥
Judges n es Cycle = Solvable es → ⊥
Judges n es TooBig = Solvable es × (Small n es → ⊥)

-- a state says what the equations say
pub record Stated (n m : ℕ) (es : List TypeEquation) (s : State) : Type 0 where
  pub sound : Sound s
  pub long : n ≤ length s.parent.items
  pub classifier_count : length s.classifier.items ≡ m
  pub shaped : IsShaped n s.parent.items s.shape.items
  pub out : (a : Assignment) → Means s a → Solves a es
  pub more : (a : Assignment) → Solves a es → (b : Assignment) × Agree n m a b × Means s b

-- a state says what the front of k equations says, and nothing waits
pub record StatesFront (n m : ℕ) (xs : List Equation) (k : ℕ) (s : State) : Type 0 where
  pub stated : Stated n m (equations_of (take k xs)) s
  pub settled : s.waiting.items ≡ []

-- what a verdict says of a front
abbrev pub JudgesFront : ℕ → List Equation → Judgement → Type 0
JudgesFront n xs front = Judges n (equations_of (take front.end xs)) front.verdict

-- a front longer than one and no longer than another has no solution
pub record ClashesBetween (xs : List Equation) (shorter end front : ℕ) : Type 0 where
  pub longer : shorter < front
  pub within : front ≤ end
  pub unsolvable : Solvable (equations_of (take front xs)) → ⊥

-- a state that has a node for each unknown and says nothing
pub record Blank (n m : ℕ) (s : State) : Type 0 where
  pub sound : Sound s
  pub node_count : length s.parent.items ≡ n
  pub classifier_count : length s.classifier.items ≡ m
  pub settled : s.waiting.items ≡ []
  pub means : (a : Assignment) → Means s a

-- so many parents, each of itself
pub record AreAlone (count : ℕ) (ps : List ℕ) : Type 0 where
  pub long : length ps ≡ count
  pub own : (i : ℕ) → i < count → slice_index_or ps i 0 ≡ i

-- the first fault
abbrev pub Faults : ℕ → List TypeEquation → SolveFault → Type 0
Faults n es (Unsolvable k) = UnsolvableAt n es k
Faults n es (TooBigFront k) = TooBigAt n es k
Faults n es (Memory e) = ⊥

-- the front of `low` is fine, that of `high` is not
pub record Halved (n : ℕ) (es : List TypeEquation) (low high : ℕ) (verdict : Verdict) : Type 0 where
  pub small : Small n (take low es)
  pub judged : Judges n (take high es) verdict
  pub faulty : verdict ≢ Fine
