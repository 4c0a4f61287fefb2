-- Equations, their solutions, most general solutions, and the first fault.
use Rattle.std.specs.Prelude.{ℕ, ◌≡◌, ◌≤◌, ◌<◌, List, [], ◌∷◌, take, length}
use Rattle.mw_types.specs.Types.{TypeExpression, type_of, Within, Assignment, value, nodes, Substitution, after}
use Rattle.mw_types.specs.declared.types.Equation.{Equation}
use Rattle.mw_types.specs.declared.types.Equations.{Equations}

pub record TypeEquation : Type 0 where
  pub left : TypeExpression
  pub right : TypeExpression

-- the views
abbrev pub equation_of : Equation → TypeEquation
equation_of e = record { left = type_of e.left; right = type_of e.right }

abbrev pub equations_of : List Equation → List TypeEquation
equations_of [] = []
equations_of (e ∷ es) = equation_of e ∷ equations_of es

-- each equation names the first n unknowns and the first m classifier unknowns alone
abbrev pub AllWithin : ℕ → ℕ → List TypeEquation → Type 0
AllWithin n m [] = Unit {0}
AllWithin n m (e ∷ es) = (Within n m e.left × Within n m e.right) × AllWithin n m es

-- the assignment makes both sides of each equation the same finite type
abbrev pub Solves : Assignment → List TypeEquation → Type 0
Solves a [] = Unit {0}
Solves a (e ∷ es) = (value a e.left ≡ value a e.right) × Solves a es

abbrev pub Solvable : List TypeEquation → Type 0
Solvable es = (a : Assignment) × Solves a es

-- two assignments are one on the first n unknowns and the first m classifier unknowns
pub record Agree (n m : ℕ) (a b : Assignment) : Type 0 where
  pub types : (u : ℕ) → u < n → a.ty u ≡ b.ty u
  pub classifiers : (c : ℕ) → c < m → a.classifier c ≡ b.classifier c

-- The substitution solves the equations whatever is put for what it leaves, and each solution comes from it so.
pub record MostGeneral (n m : ℕ) (es : List TypeEquation) (s : Substitution) : Type 0 where
  pub sound : (b : Assignment) → Solves (after b s) es
  pub general : (a : Assignment) → Solves a es → (b : Assignment) × Agree n m a (after b s)

-- no unknown's type has over 10,000 nodes
abbrev pub IsSmall : ℕ → Substitution → Type 0
IsSmall n s = (u : ℕ) → u < n → nodes (s.ty u) ≤ 10000

-- the substitution's types and classifiers name the first n unknowns and the first m classifier unknowns alone
pub record StaysWithin (n m : ℕ) (s : Substitution) : Type 0 where
  pub types : (u : ℕ) → u < n → Within n m (s.ty u)
  pub classifiers : (c : ℕ) → c < m → s.classifier c < m

-- a most general solution in which no type is too big gives the unknown the type
pub record IsPrincipalType (n m : ℕ) (es : List TypeEquation) (u : ℕ) (t : TypeExpression) : Type 0 where
  pub solution : Substitution
  pub general : MostGeneral n m es solution
  pub small : IsSmall n solution
  pub within : StaysWithin n m solution
  pub type : t ≡ solution.ty u

-- a most general solution has, for some unknown, a type of over 10,000 nodes
abbrev pub TooBig : ℕ → ℕ → List TypeEquation → Type 0
TooBig n m es = (s : Substitution) × MostGeneral n m es s × (u : ℕ) × (u < n) × (10000 < nodes (s.ty u))

-- a most general solution has no such type
abbrev pub Fine : ℕ → ℕ → List TypeEquation → Type 0
Fine n m es = (s : Substitution) × MostGeneral n m es s × IsSmall n s

-- the front of k equations has no solution, and each shorter one is fine
pub record FirstUnsolvable (n m : ℕ) (es : List TypeEquation) (k : ℕ) : Type 0 where
  pub within : k ≤ length es
  pub unsolvable : Solvable (take k es) → ⊥
  pub shorter : (j : ℕ) → j < k → Fine n m (take j es)

-- the front of k equations is too big, and each shorter one is fine
pub record FirstTooBig (n m : ℕ) (es : List TypeEquation) (k : ℕ) : Type 0 where
  pub within : k ≤ length es
  pub too_big : TooBig n m (take k es)
  pub shorter : (j : ℕ) → j < k → Fine n m (take j es)

-- The same, of the solver's equations with the numbers of their unknowns and classifier unknowns.

-- they name the unknowns and the classifier unknowns below these numbers alone
abbrev pub AreWithin : Equations → Type 0
AreWithin e = AllWithin e.unknowns e.classifiers (equations_of e.pairs)

-- they have a most general solution, and no type of it is too big
abbrev pub AreFine : Equations → Type 0
AreFine e = Fine e.unknowns e.classifiers (equations_of e.pairs)

-- the substitution is a most general solution of them
abbrev pub HaveMostGeneral : Equations → Substitution → Type 0
HaveMostGeneral e = MostGeneral e.unknowns e.classifiers (equations_of e.pairs)

-- the front of k of them is the first without a solution
abbrev pub AreFirstUnsolvable : Equations → ℕ → Type 0
AreFirstUnsolvable e = FirstUnsolvable e.unknowns e.classifiers (equations_of e.pairs)

-- the front of k of them is the first that is too big
abbrev pub AreFirstTooBig : Equations → ℕ → Type 0
AreFirstTooBig e = FirstTooBig e.unknowns e.classifiers (equations_of e.pairs)

-- a most general solution of them, in which no type is too big, gives the unknown the type
abbrev pub GivePrincipalType : Equations → ℕ → TypeExpression → Type 0
GivePrincipalType e = IsPrincipalType e.unknowns e.classifiers (equations_of e.pairs)
