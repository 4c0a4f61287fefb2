-- The basic laws of shifting and substitution.
use Rattle.std.specs.Prelude.{◌≡◌, ℕ, suc, ◌≤◌}
use Rattle.mw_term.specs.Terms.{Expression, Value, size}
use Rattle.mw_term.specs.Substitution.{shift, substitute}
use Rattle.mw_term.specs.Closed.{ClosedBelow, ClosedValueBelow}

-- neither changes a term's size
abbrev pub ShiftKeepsSize : Type 0
ShiftKeepsSize = (e : Expression) (k : ℕ) → size (shift e k) ≡ size e

abbrev pub SubstitutionKeepsSize : Type 0
SubstitutionKeepsSize = (e : Expression) (k : ℕ) (v : Value) → size (substitute e k v) ≡ size e

-- a value put for a variable that a shift left out changes nothing
abbrev pub SubstitutionUndoesShift : Type 0
SubstitutionUndoesShift = (e : Expression) (k : ℕ) (v : Value) → substitute (shift e k) k v ≡ e

-- two shifts may come in either order
abbrev pub ShiftsCommute : Type 0
ShiftsCommute = (e : Expression) (j k : ℕ) → j ≤ k → shift (shift e j) (suc k) ≡ shift (shift e k) j

-- what has no free variable from k on stays as it is
abbrev pub ShiftKeepsClosed : Type 0
ShiftKeepsClosed = (e : Expression) (j k : ℕ) → j ≤ k → ClosedBelow j e → shift e k ≡ e

abbrev pub SubstitutionKeepsClosed : Type 0
SubstitutionKeepsClosed = (e : Expression) (j k : ℕ) (v : Value) → j ≤ k → ClosedBelow j e → substitute e k v ≡ e

-- which variables are free afterwards
abbrev pub ShiftRaisesFree : Type 0
ShiftRaisesFree = (e : Expression) (k m : ℕ) → ClosedBelow m e → ClosedBelow (suc m) (shift e k)

abbrev pub SubstitutionLowersFree : Type 0
SubstitutionLowersFree = (e : Expression) (k m : ℕ) (v : Value) → k ≤ m → ClosedValueBelow m v → ClosedBelow (suc m) e
    → ClosedBelow m (substitute e k v)
