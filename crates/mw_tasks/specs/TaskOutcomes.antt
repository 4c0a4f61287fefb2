-- What the tasks of a program answer.
use Rattle.std.specs.Prelude.{ℕ, ◌≡◌, true, Some, Result, Ok, Err, slice_get}
use Rattle.mw_term.specs.Terms.{Expression, KernelType, PureGroundValue, expression_of, ground_value_of}
use Rattle.mw_term.specs.Limits.{within_limits}
use Rattle.mw_term.specs.Programs.{kernel, PureProgram}
use Rattle.mw_term.specs.Typable.{HasKernelType}
use Rattle.mw_meaning.specs.Outcomes.{Outcome, came_to, trapped, bounded}
use Rattle.mw_machine.specs.declared.kernels.KernelFault.{KernelFault}
use Rattle.mw_machine.specs.declared.kernels.KernelFault.TheVariants as fault
use Rattle.mw_tasks.specs.declared.outcome.Evaluated.{Evaluated}
use Rattle.mw_tasks.specs.declared.outcome.Evaluated.TheVariants as i
use Rattle.mw_tasks.specs.declared.outcome.MainOutcome.{MainOutcome}
use Rattle.mw_tasks.specs.declared.outcome.MainOutcome.TheVariants as m

-- the item of this number is a kernel
abbrev pub IsKernelItem : PureProgram → ℕ → Type 0
IsKernelItem p i = (k : KernelType) × (e : Expression) × (slice_get p.items i ≡ Some (kernel k e))

-- the outcome is the meaning's: its code, its trap or its bound
abbrev pub IsItemAnswer : Evaluated → Outcome Expression → Type 0
IsItemAnswer (i.Code t) (came_to c) = expression_of t ≡ c
IsItemAnswer (i.Trap t) (trapped u) = t ≡ u
IsItemAnswer (i.Bound l) (bounded b) = l ≡ b
IsItemAnswer _ _ = ⊥

-- want of memory says nothing, and a bad answer never comes
abbrev pub IsItemOutcome : Result Evaluated KernelFault → Outcome Expression → Type 0
IsItemOutcome (Ok o) a = IsItemAnswer o a
IsItemOutcome (Err (fault.Memory e)) a = Unit {0}
IsItemOutcome (Err (fault.Bad d)) a = ⊥

-- the outcome is the meaning's: its value, its trap or its bound
abbrev pub IsMainAnswer : MainOutcome → Outcome PureGroundValue → Type 0
IsMainAnswer (m.Value v) (came_to w) = ground_value_of v ≡ w
IsMainAnswer (m.Trap t) (trapped u) = t ≡ u
IsMainAnswer (m.Bound l) (bounded b) = l ≡ b
IsMainAnswer _ _ = ⊥

abbrev pub IsMainOutcome : Result MainOutcome KernelFault → Outcome PureGroundValue → Type 0
IsMainOutcome (Ok o) a = IsMainAnswer o a
IsMainOutcome (Err (fault.Memory e)) a = Unit {0}
IsMainOutcome (Err (fault.Bad d)) a = ⊥

-- P holds of the code that a kernel item came to, if it came to code
abbrev pub IfItsCode : Evaluated → (Expression → Type 0) → Type 0
IfItsCode (i.Code t) P = P (expression_of t)
IfItsCode _ P = Unit {0}

-- P holds of the code, if there is one
abbrev pub IfCode : Result Evaluated KernelFault → (Expression → Type 0) → Type 0
IfCode (Ok o) P = IfItsCode o P
IfCode (Err f) P = Unit {0}

-- P holds of the value that main came to, if it came to one
abbrev pub IfGiven : MainOutcome → (PureGroundValue → Type 0) → Type 0
IfGiven (m.Value v) P = P (ground_value_of v)
IfGiven _ P = Unit {0}

-- P holds of the value, if there is one
abbrev pub IfValue : Result MainOutcome KernelFault → (PureGroundValue → Type 0) → Type 0
IfValue (Ok o) P = IfGiven o P
IfValue (Err f) P = Unit {0}

-- closed code of the type of the kernel item of this number, within the limits
abbrev pub IsCodeOf : PureProgram → ℕ → Expression → Type 0
IsCodeOf p i c =
    (k : KernelType) (e : Expression) → slice_get p.items i ≡ Some (kernel k e) → HasKernelType c k
    × (within_limits c ≡ true)

-- the kernel item of this number is of this type
abbrev pub HasKind : PureProgram → ℕ → KernelType → Type 0
HasKind p i k = (e : Expression) × (slice_get p.items i ≡ Some (kernel k e))
