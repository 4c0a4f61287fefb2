-- Laws of most general solutions and of fronts.
use Rattle.std.specs.Prelude.{ℕ, ◌≡◌, ◌≤◌, ◌<◌, ◌⊎◌, List, take}
use Rattle.mw_types.specs.Types.{Assignment, Substitution, nodes, after}
use Rattle.mw_types.specs.Equations.{TypeEquation, AllWithin, Solvable, Agree, MostGeneral, TooBig, Fine}
use Rattle.mw_types.specs.Equations.{FirstUnsolvable, FirstTooBig}

-- equations that have a solution have a most general one
abbrev pub SolvableHaveMostGeneral : Type 0
SolvableHaveMostGeneral = (n m : ℕ) (es : List TypeEquation) → AllWithin n m es → Solvable es → (s : Substitution)
    × MostGeneral n m es s

-- of two most general solutions each is an instance of the other
abbrev pub MostGeneralAreInstances : Type 0
MostGeneralAreInstances = (n m : ℕ) (es : List TypeEquation) (s t : Substitution) → MostGeneral n m es s
    → MostGeneral n m es t → (b : Assignment) → (d : Assignment) × Agree n m (after b s) (after d t)

-- and their types have the same sizes
abbrev pub MostGeneralHaveSameSizes : Type 0
MostGeneralHaveSameSizes = (n m : ℕ) (es : List TypeEquation) (s t : Substitution) → MostGeneral n m es s
    → MostGeneral n m es t → (u : ℕ) → u < n → nodes (s.ty u) ≡ nodes (t.ty u)

-- a longer front of one without a solution has none
abbrev pub UnsolvableStays : Type 0
UnsolvableStays = (es : List TypeEquation) (j k : ℕ) → j ≤ k → (Solvable (take j es) → ⊥) → Solvable (take k es) → ⊥

-- a longer front of one that is too big is too big, where it has a solution
abbrev pub TooBigStays : Type 0
TooBigStays = (n m : ℕ) (es : List TypeEquation) (j k : ℕ) → AllWithin n m es → j ≤ k → TooBig n m (take j es)
    → Solvable (take k es) → TooBig n m (take k es)

-- a shorter front of a fine one is fine
abbrev pub FineBefore : Type 0
FineBefore = (n m : ℕ) (es : List TypeEquation) (j k : ℕ) → AllWithin n m es → j ≤ k → Fine n m (take k es)
    → Fine n m (take j es)

-- Equations have at most one first fault, and none where they are fine.
pub record OneFault (n m : ℕ) (es : List TypeEquation) : Type 0 where
  pub unsolvable : (j k : ℕ) → FirstUnsolvable n m es j → FirstUnsolvable n m es k → j ≡ k
  pub too_big : (j k : ℕ) → FirstTooBig n m es j → FirstTooBig n m es k → j ≡ k
  pub apart : (j k : ℕ) → FirstUnsolvable n m es j → FirstTooBig n m es k → ⊥
  pub fine_unsolvable : (k : ℕ) → Fine n m es → FirstUnsolvable n m es k → ⊥
  pub fine_too_big : (k : ℕ) → Fine n m es → FirstTooBig n m es k → ⊥

abbrev pub FaultsAreOne : Type 0
FaultsAreOne = (n m : ℕ) (es : List TypeEquation) → OneFault n m es

-- and they are fine where they have none
abbrev pub FineOrFaulty : Type 0
FineOrFaulty = (n m : ℕ) (es : List TypeEquation) → AllWithin n m es → Fine n m es
    ⊎ (((k : ℕ) × FirstUnsolvable n m es k) ⊎ ((k : ℕ) × FirstTooBig n m es k))
