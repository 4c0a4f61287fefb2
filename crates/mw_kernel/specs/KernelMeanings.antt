-- What an answer says of the kernel that the module stands for.
use Rattle.std.specs.Prelude.{ℕ, ◌≡◌, List, [], Some, Result, Ok, Err, codes, FitsSigned}
use Rattle.std.specs.Int.{w64, cast_signed, cast_unsigned}
use Rattle.mw_term.specs.Terms.{Expression, KernelType, KernelValue, PureGroundValue, of_ground, to}
use Rattle.mw_term.specs.Terms.{int, bool, both, function, recursive, ground_value, ground_value_of}
use Rattle.mw_term.specs.Typable.{HasKernelType}
use Rattle.mw_term.specs.Types.{kernel_type}
use Rattle.mw_term.specs.Typing.{Valued}
use Rattle.mw_term.specs.Unlabelled.{unlabelled_value, IsClosedKernelValue}
use Rattle.mw_meaning.specs.Arithmetic.{trap, bound}
use Rattle.mw_meaning.specs.KernelMeaning.{Ended, gives, stops, kernel_meaning}
use Rattle.mw_meaning.specs.StagedMeaning.{kernel_argument, argument_words, call_of}
use Rattle.mw_meaning.specs.StandingFor.{Call, AreCalls, CallsAnswer, StandsFor}
use Rattle.mw_wasm.specs.declared.modules.Module.{Module}
use Rattle.mw_wasm.specs.Instances.{exported}
use Rattle.mw_wasm.specs.Views.{module_of}
use Rattle.mw_machine.specs.declared.kernels.Ran.{Ran}
use Rattle.mw_machine.specs.declared.kernels.Ran.TheVariants as ran
use Rattle.mw_kernel.specs.declared.fault.RunFault.{RunFault}
use Rattle.mw_kernel.specs.declared.fault.RunFault.TheVariants as fault
use Rattle.mw_kernel.specs.declared.running.Began.{Began}
use Rattle.mw_kernel.specs.declared.running.Began.TheVariants as began
use Rattle.mw_kernel.specs.RunningStates.{RunningState, store_of}
use Rattle.mw_meaning.specs.GroundValues.{kernel_value}

-- The value is the kernel's: its integers are those of 64 bits with the same words, and so the same where the kernel's
-- have 64 bits.
abbrev pub IsSameValue : KernelValue → PureGroundValue → Type 0
IsSameValue (int y) (int z) = z ≡ cast_signed w64 (cast_unsigned w64 y)
IsSameValue (bool b) (bool c) = c ≡ b
IsSameValue (both v w) (both x y) = IsSameValue v x × IsSameValue w y
IsSameValue _ _ = ⊥

-- the integers of a kernel's value have 64 bits
abbrev pub HasShortIntegers : KernelValue → Type 0
HasShortIntegers (int y) = FitsSigned w64 y
HasShortIntegers (bool b) = Unit {0}
HasShortIntegers (both v w) = HasShortIntegers v × HasShortIntegers w
HasShortIntegers (function e) = Unit {0}
HasShortIntegers (recursive e) = Unit {0}

-- What is kept is this function, which has taken so many words: it has the type, and each list of calls on the store as
-- it is answers as the calls of the function do.
pub record Keeps (r : RunningState) (f : KernelValue) (words : ℕ) : Type 0 where
  pub closed : IsClosedKernelValue f
  pub typed : Valued [] [] (unlabelled_value f) (kernel_type (to r.argument r.result))
  pub calls : (g : ℕ) → exported (module_of r.wasm) (codes "call") ≡ Some g → (calls : List Call)
      → AreCalls r.argument calls
      → CallsAnswer (module_of r.wasm) g r.function f words calls (store_of r)

-- a start answers as the code means: with its value or its function, and as many units left, by its trap or at its
-- bound
abbrev pub IsBeganFrom : KernelType → Began → Ended → Type 0
IsBeganFrom (of_ground t) (began.Value v left) (gives w units words) = IsSameValue w (ground_value_of v)
    × (left ≡ units)
IsBeganFrom (to s t) (began.Function r left) (gives f units words) = Keeps r f words × (left ≡ units)
IsBeganFrom k (began.Trap t) (stops (trap u)) = t ≡ u
IsBeganFrom k (began.Bound l) (stops (bound b)) = l ≡ b
IsBeganFrom _ _ _ = ⊥

-- a call answers as the call of the function means
abbrev pub IsRanFrom : Ran → Ended → Type 0
IsRanFrom (ran.Value v left) (gives w units words) = IsSameValue w (ground_value_of v) × (left ≡ units)
IsRanFrom (ran.Trap t) (stops (trap u)) = t ≡ u
IsRanFrom (ran.Bound l) (stops (bound b)) = l ≡ b
IsRanFrom _ _ = ⊥

-- never Bad; want of memory says nothing
abbrev pub IsStartMeant : Result Began RunFault → KernelType → Ended → Type 0
IsStartMeant (Ok b) k a = IsBeganFrom k b a
IsStartMeant (Err fault.Bad) k a = ⊥
IsStartMeant (Err (fault.Memory _)) k a = Unit {0}

abbrev pub IsCallMeant : Result Ran RunFault → Ended → Type 0
IsCallMeant (Ok r) a = IsRanFrom r a
IsCallMeant (Err fault.Bad) a = ⊥
IsCallMeant (Err (fault.Memory _)) a = Unit {0}

-- whatever code of the type the module stands for, a start answers as the code means
abbrev pub MeansStart : Result Began RunFault → Module → KernelType → ℕ → Type 0
MeansStart answer wasm k units =
    (c : Expression) → HasKernelType c k → StandsFor (module_of wasm) c k
    → IsStartMeant answer k (kernel_meaning units 0 c)

-- whatever function is kept, a call answers as the call of the function means
abbrev pub MeansCall : Result Ran RunFault → RunningState → PureGroundValue → ℕ → Type 0
MeansCall answer r v units =
    (f : KernelValue) (words : ℕ) → Keeps r f words
    → IsCallMeant answer (call_of f words (kernel_argument (ground_value v)) (argument_words (ground_value v)) units)

-- and after a value the same function is kept
abbrev pub KeepsOn : Result Ran RunFault → RunningState → RunningState → Type 0
KeepsOn (Ok (ran.Value v left)) old new = (f : KernelValue) (words : ℕ) → Keeps old f words → Keeps new f words
KeepsOn _ old new = Unit {0}

-- Where a kernel's value has integers of 64 bits, the value that is given for it is the same.
abbrev pub ShortIntegersAreKept : Type 0
ShortIntegersAreKept = (w : KernelValue) (v : PureGroundValue) → HasShortIntegers w → IsSameValue w v → kernel_value v
    ≡ w
