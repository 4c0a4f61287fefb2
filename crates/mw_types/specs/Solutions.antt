-- What the solver answers, as lists.
use Rattle.std.specs.Prelude.{ℕ, ◌≡◌, List, slice_index_or, Result, Ok, Err}
use Rattle.mw_types.specs.Types.{type_of, Substitution}
use Rattle.mw_types.specs.Equations.{TypeEquation, FirstUnsolvable, FirstTooBig, equations_of}
use Rattle.mw_types.specs.declared.types.Equations.{Equations}
use Rattle.mw_types.specs.declared.types.Ty.{Ty}
use Rattle.mw_types.specs.declared.types.Ty.TheVariants.{Int}
use Rattle.mw_types.specs.declared.types.SolveFault.{SolveFault}
use Rattle.mw_types.specs.declared.types.SolveFault.TheVariants.{Unsolvable, TooBig, Memory}

-- The types by the numbers of the unknowns, the classifiers' representatives by their numbers, and of each unknown the
-- number of the tree that holds its type.
pub record Solution : Type 0 where
  pub types : List Ty
  pub classifiers : List ℕ
  pub roots : List ℕ

-- the solution as a substitution
abbrev pub substitution_of : Solution → Substitution
substitution_of s =
    record { ty = λ u. type_of (slice_index_or s.types u Int); classifier = λ c. slice_index_or s.classifiers c 0 }

-- what a fault says of equations on n unknowns and m classifier unknowns
abbrev pub FirstFault : ℕ → ℕ → List TypeEquation → SolveFault → Type 0
FirstFault n m es (Unsolvable k) = FirstUnsolvable n m es k
FirstFault n m es (TooBig k) = FirstTooBig n m es k
FirstFault n m es (Memory e) = Unit {0}

-- the fault is the first of the solver's equations; want of memory says nothing of them
abbrev pub HaveFirstFault : Equations → SolveFault → Type 0
HaveFirstFault e = FirstFault e.unknowns e.classifiers (equations_of e.pairs)

-- the answer is the fault, or want of memory
abbrev pub IsFaultOrMemory : Result Solution SolveFault → SolveFault → Type 0
IsFaultOrMemory (Ok s) f = ⊥
IsFaultOrMemory (Err (Unsolvable k)) f = Unsolvable k ≡ f
IsFaultOrMemory (Err (TooBig k)) f = TooBig k ≡ f
IsFaultOrMemory (Err (Memory e)) f = Unit {0}

-- the answer is a solution, or want of memory
abbrev pub IsSolvedOrMemory : Result Solution SolveFault → Type 0
IsSolvedOrMemory (Ok s) = Unit {0}
IsSolvedOrMemory (Err (Unsolvable k)) = ⊥
IsSolvedOrMemory (Err (TooBig k)) = ⊥
IsSolvedOrMemory (Err (Memory e)) = Unit {0}
