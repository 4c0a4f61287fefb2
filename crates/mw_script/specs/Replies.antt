-- What scripted kernels answer.
use Rattle.std.specs.Prelude.{ℕ, ◌≡◌, List, Result, Ok, Err}
use Rattle.mw_term.specs.Terms.{GroundType, ground_value_of}
use Rattle.mw_meaning.specs.GroundValues.{HasGroundType}
use Rattle.mw_machine.specs.declared.kernels.Ran.{Ran}
use Rattle.mw_machine.specs.declared.kernels.Ran.TheVariants as ran
use Rattle.mw_machine.specs.declared.kernels.KernelFault.{KernelFault}
use Rattle.mw_machine.specs.declared.kernels.KernelFault.TheVariants as fault

-- a value of the type, or no value and no function
abbrev pub IsValueAt : Result Ran KernelFault → GroundType → Type 0
IsValueAt (Ok (ran.Value v left)) t = HasGroundType t (ground_value_of v)
IsValueAt (Ok (ran.Function which left)) t = ⊥
IsValueAt _ t = Unit {0}

-- no value and no function
abbrev pub IsStop : Result Ran KernelFault → Type 0
IsStop (Ok (ran.Value v left)) = ⊥
IsStop (Ok (ran.Function which left)) = ⊥
IsStop _ = Unit {0}

-- not a bad answer
abbrev pub IfBad : Result Ran KernelFault → Type 0 → Type 0
IfBad (Err (fault.Bad d)) P = P
IfBad _ P = Unit {0}

abbrev pub IsNoBad : Result Ran KernelFault → Type 0
IsNoBad a = IfBad a ⊥

-- the digest of a bad answer is noted
abbrev pub IsNoted : Result Ran KernelFault → List ℕ → Type 0
IsNoted (Err (fault.Bad d)) last = last ≡ d
IsNoted _ last = Unit {0}
