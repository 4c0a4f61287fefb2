-- When a module of WebAssembly means a kernel's code.
use Rattle.std.specs.Prelude.{ℕ, ◌+◌, ◌≡◌, Bool, true, false, IsTrue, List, [], ◌∷◌, ◌++◌, Some, Ok, codes}
use Rattle.std.specs.Int.{w64, cast_unsigned}
use Rattle.mw_term.specs.Terms.{Expression, Value, KernelValue, KernelType, GroundType, of_ground, to, int, bool}
use Rattle.mw_term.specs.Terms.{both, function, recursive}
use Rattle.mw_term.specs.declared.value.TrapKind.TheVariants as kind
use Rattle.mw_term.specs.declared.value.Limit.TheVariants.{Fuel, Heap}
use Rattle.mw_term.specs.Typable.{HasKernelType}
use Rattle.mw_meaning.specs.Arithmetic.{trap, bound}
use Rattle.mw_meaning.specs.GroundValues.{IsArgument}
use Rattle.mw_meaning.specs.KernelMeaning.{Ended, gives, stops, kernel_meaning}
use Rattle.mw_meaning.specs.StagedMeaning.{kernel_argument, argument_words, call_of}
use Rattle.mw_wasm.specs.declared.values.Value.{Value as WasmValue}
use Rattle.mw_wasm.specs.declared.values.Value.TheVariants.{I64}
use Rattle.mw_wasm.specs.declared.values.Trap.TheVariants as traps
use Rattle.mw_wasm.specs.Syntax.{PureModule}
use Rattle.mw_wasm.specs.Store.{Memory, Store, is_inside, read_bytes}
use Rattle.mw_wasm.specs.Execution.{End, ended, trapped, spent}
use Rattle.mw_wasm.specs.Instances.{exported, instantiated, invoked}

-- a truth value as a number
abbrev pub truth_number : Bool → ℕ
truth_number true = 1
truth_number false = 0

-- A word, read unsigned, is a value beside this memory: an integer's two's complement, 1 or 0 for a truth value, for a
-- pair the address of 16 bytes of the memory whose two words are its parts, and any word for a function.
abbrev pub IsWord : KernelValue → ℕ → Memory → Type 0
IsWord (int z) n memory = n ≡ cast_unsigned w64 z
IsWord (bool b) n memory = n ≡ truth_number b
IsWord (both v w) n memory = IsTrue (is_inside memory n 16) × IsWord v (read_bytes 8 n memory) memory
    × IsWord w (read_bytes 8 (n + 8) memory) memory
IsWord (function e) n memory = Unit {0}
IsWord (recursive e) n memory = Unit {0}

-- an invocation's results are one i64, whose word is the value beside the memory that it leaves
abbrev pub IsResult : KernelValue → List WasmValue → Memory → Type 0
IsResult v vs memory = (n : ℕ) × (vs ≡ I64 n ∷ []) × IsWord v n memory

-- An invocation answers as the kernel meaning does: its value, read beside the memory that it leaves, with as many
-- units left, its trap, a trap of a store out of bounds where the heap is full, and the end of the units where they are
-- spent.
abbrev pub AnswersAs : Ended → End → Type 0
AnswersAs (gives v left words) (ended st vs units) = IsResult v vs st.memory × (units ≡ left)
AnswersAs (stops (trap kind.Divide)) (trapped traps.Divide st) = Unit {0}
AnswersAs (stops (trap kind.Overflow)) (trapped traps.Overflow st) = Unit {0}
AnswersAs (stops (bound Heap)) (trapped traps.OutOfBounds st) = Unit {0}
AnswersAs (stops (bound Fuel)) spent = Unit {0}
AnswersAs _ _ = ⊥

-- the leaves of an argument, from left to right
abbrev pub leaves : Value → List WasmValue
leaves (int z) = I64 (cast_unsigned w64 z) ∷ []
leaves (bool b) = I64 (truth_number b) ∷ []
leaves (both v w) = leaves v ++ leaves w
leaves _ = []

-- a call of a kept function: its argument, and its units
pub record Call : Type 0 where
  pub argument : Value
  pub units : ℕ

abbrev pub AreCalls : GroundType → List Call → Type 0
AreCalls s [] = Unit {0}
AreCalls s (c ∷ calls) = IsArgument s c.argument × AreCalls s calls

-- the store has this property, where the invocation ended with values
abbrev pub IfEnded : End → (Store → Type 0) → Type 0
IfEnded (ended st vs units) P = P st
IfEnded _ P = Unit {0}

module _ (m : PureModule) where
  -- Calls on one instance, one after another, where `call` is function g and `init` gave r: each answers as the call of
  -- the kept function f with its words does, as long as all before it ended with a value.
  abbrev pub CallsAnswer : (g r : ℕ) → KernelValue → (words : ℕ) → List Call → Store → Type 0
  CallsAnswer g r f words [] st = Unit {0}
  CallsAnswer g r f words (c ∷ calls) st =
      AnswersAs (call_of f words (kernel_argument c.argument) (argument_words c.argument) c.units)
      (invoked m st g (I64 r ∷ leaves c.argument) c.units)
      × IfEnded (invoked m st g (I64 r ∷ leaves c.argument) c.units) (CallsAnswer g r f words calls)

  -- the calls after an invocation of `init` that ended with a value
  abbrev pub CallsAfter : (g : ℕ) → Ended → End → List Call → Type 0
  CallsAfter g (gives f left words) (ended st (I64 r ∷ []) units) calls = CallsAnswer g r f words calls st
  CallsAfter g _ _ calls = Unit {0}

  -- a module for code of a ground type has no more than `init`; one for a function has `call`
  abbrev pub CallsMean : Expression → KernelType → (init : ℕ) → Store → Type 0
  CallsMean c (of_ground t) init st = Unit {0}
  CallsMean c (to s t) init st = (g : ℕ) × (exported m (codes "call") ≡ Some g)
      × ((n : ℕ) (calls : List Call) → AreCalls s calls → CallsAfter g (kernel_meaning n 0 c) (invoked m st init [] n)
      calls)

  -- on the instance that the module begins as, `init` answers as the code does, and then each list of calls as its
  -- calls do
  pub record MeansKernel (c : Expression) (k : KernelType) (st : Store) : Type 0 where
    pub init : ℕ
    pub is_init : exported m (codes "init") ≡ Some init
    pub run : (n : ℕ) → AnswersAs (kernel_meaning n 0 c) (invoked m st init [] n)
    pub calls : CallsMean c k init st

-- The module has an instance, and where the code has the kernel type, the instance means the code.
pub record StandsFor (m : PureModule) (c : Expression) (k : KernelType) : Type 0 where
  pub store : Store
  pub has_instance : instantiated m ≡ Ok store
  pub means : HasKernelType c k → MeansKernel m c k store
