-- What an answer says of how the invocation of `init` or of `call` ends.
use Rattle.std.specs.Prelude.{ℕ, ◌≡◌, ◌≤◌, [], ◌∷◌, Some, Result, Ok, Err, codes, FitsSigned}
use Rattle.std.specs.Int.{w64}
use Rattle.mw_term.specs.Terms.{GroundType, KernelType, PureGroundValue, of_ground, to, int, bool, both, ground_value}
use Rattle.mw_term.specs.Terms.{ground_value_of}
use Rattle.mw_term.specs.declared.value.Limit.{Limit}
use Rattle.mw_term.specs.declared.value.Limit.TheVariants.{Fuel, Heap}
use Rattle.mw_term.specs.declared.value.TrapKind.{TrapKind}
use Rattle.mw_term.specs.declared.value.TrapKind.TheVariants as kind
use Rattle.mw_meaning.specs.GroundValues.{HasGroundType, IsArgument, kernel_value}
use Rattle.mw_meaning.specs.Shapes.{IsWordOf, IsWordOfKernel, IsStrayEnd}
use Rattle.mw_meaning.specs.StandingFor.{IsWord, leaves}
use Rattle.mw_wasm.specs.declared.modules.Module.{Module}
use Rattle.mw_wasm.specs.declared.values.Value.TheVariants.{I64}
use Rattle.mw_wasm.specs.declared.values.Trap.TheVariants as traps
use Rattle.mw_wasm.specs.Execution.{End, ended, trapped, spent}
use Rattle.mw_wasm.specs.Instances.{exported, instantiated, invoked}
use Rattle.mw_wasm.specs.Store.{Memory, Store}
use Rattle.mw_wasm.specs.Views.{module_of}
use Rattle.mw_machine.specs.declared.kernels.Ran.{Ran}
use Rattle.mw_machine.specs.declared.kernels.Ran.TheVariants as ran
use Rattle.mw_kernel.specs.declared.fault.RunFault.{RunFault}
use Rattle.mw_kernel.specs.declared.fault.RunFault.TheVariants as fault
use Rattle.mw_kernel.specs.declared.running.Began.{Began}
use Rattle.mw_kernel.specs.declared.running.Began.TheVariants as began
use Rattle.mw_kernel.specs.RunningStates.{RunningState, store_of}

-- the integers of a ground value have 64 bits
abbrev pub FitsWords : PureGroundValue → Type 0
FitsWords (int z) = FitsSigned w64 z
FitsWords (bool b) = Unit {0}
FitsWords (both v w) = FitsWords v × FitsWords w

-- The word is this value of the ground type, beside this memory; the value's integers have 64 bits.
pub record IsValueAt (t : GroundType) (v : PureGroundValue) (n : ℕ) (memory : Memory) : Type 0 where
  pub has_type : HasGroundType t v
  pub fits : IsArgument t (ground_value v)
  pub is_word : IsWord (kernel_value v) n memory

-- it ended with one word, which is this value beside the memory that it left, and with as many units left
abbrev pub EndsWithValue : GroundType → PureGroundValue → ℕ → End → Type 0
EndsWithValue t v left (ended st (I64 n ∷ []) units) = IsValueAt t v n st.memory × (left ≡ units)
EndsWithValue t v left _ = ⊥

-- it ended by the kernel's trap of this name
abbrev pub EndsByTrap : TrapKind → End → Type 0
EndsByTrap kind.Divide (trapped traps.Divide st) = Unit {0}
EndsByTrap kind.Overflow (trapped traps.Overflow st) = Unit {0}
EndsByTrap _ _ = ⊥

-- it ended at the kernel's bound: the heap's where it trapped by an access out of bounds, the fuel's where it was spent
abbrev pub EndsAtBound : Limit → End → Type 0
EndsAtBound Heap (trapped traps.OutOfBounds st) = Unit {0}
EndsAtBound Fuel spent = Unit {0}
EndsAtBound _ _ = ⊥

-- a function is kept: the module with this store, the word that `init` gave, and the kernel's types
pub record IsKeptAs (wasm : Module) (st : Store) (n : ℕ) (s t : GroundType) (r : RunningState) : Type 0 where
  pub wasm_is : r.wasm ≡ wasm
  pub store_is : store_of r ≡ st
  pub function_is : r.function ≡ n
  pub argument_is : r.argument ≡ s
  pub result_is : r.result ≡ t

-- it ended with one word, the kept function has that word and the store that it left, and as many units are left
abbrev pub EndsWithFunction : Module → (s t : GroundType) → RunningState → ℕ → End → Type 0
EndsWithFunction wasm s t r left (ended st (I64 n ∷ []) units) = IsKeptAs wasm st n s t r × (left ≡ units)
EndsWithFunction wasm s t r left _ = ⊥

abbrev pub IsBeganAs : Module → KernelType → Began → End → Type 0
IsBeganAs wasm (of_ground t) (began.Value v left) e = EndsWithValue t (ground_value_of v) left e
IsBeganAs wasm (to s t) (began.Function r left) e = EndsWithFunction wasm s t r left e
IsBeganAs wasm k (began.Trap t) e = EndsByTrap t e
IsBeganAs wasm k (began.Bound l) e = EndsAtBound l e
IsBeganAs wasm _ _ _ = ⊥

abbrev pub IsRanAs : GroundType → Ran → End → Type 0
IsRanAs t (ran.Value v left) e = EndsWithValue t (ground_value_of v) left e
IsRanAs t (ran.Function i left) e = ⊥
IsRanAs t (ran.Trap k) e = EndsByTrap k e
IsRanAs t (ran.Bound l) e = EndsAtBound l e

-- Bad is the answer exactly where it ended as no kernel does; want of memory says nothing
abbrev pub IsStartOf : Result Began RunFault → Module → KernelType → End → Type 0
IsStartOf (Ok b) wasm k e = IsBeganAs wasm k b e
IsStartOf (Err fault.Bad) wasm k e = IsStrayEnd (IsWordOfKernel k) e
IsStartOf (Err (fault.Memory _)) wasm k e = Unit {0}

abbrev pub IsCallOf : Result Ran RunFault → GroundType → End → Type 0
IsCallOf (Ok r) t e = IsRanAs t r e
IsCallOf (Err fault.Bad) t e = IsStrayEnd (IsWordOf t) e
IsCallOf (Err (fault.Memory _)) t e = Unit {0}

-- The answer of a start is how the module's `init` ends, on the instance that the module begins as, with so many units.
abbrev pub AnswersStart : Result Began RunFault → Module → KernelType → ℕ → Type 0
AnswersStart answer wasm k units =
    (st : Store) (f : ℕ) → instantiated (module_of wasm) ≡ Ok st → exported (module_of wasm) (codes "init") ≡ Some f
    → IsStartOf answer wasm k (invoked (module_of wasm) st f [] units)

-- how function g, the module's `call`, ends with the kept function's word and the leaves of an argument, on its store
abbrev pub call_end : RunningState → ℕ → PureGroundValue → ℕ → End
call_end r g v units = invoked (module_of r.wasm) (store_of r) g (I64 r.function ∷ leaves (ground_value v)) units

-- The answer of a call is how the module's `call` ends.
abbrev pub AnswersCall : Result Ran RunFault → RunningState → PureGroundValue → ℕ → Type 0
AnswersCall answer r v units =
    (g : ℕ) → exported (module_of r.wasm) (codes "call") ≡ Some g → IsCallOf answer r.result (call_end r g v units)

-- where an invocation ended with values or trapped, this is the store that it left
abbrev pub IsStoreAfter : End → Store → Type 0
IsStoreAfter (ended st vs units) after = after ≡ st
IsStoreAfter (trapped t st) after = after ≡ st
IsStoreAfter _ after = Unit {0}

-- after every answer but want of memory the next call runs on the store that the module's `call` left, where it left
-- one
abbrev pub StoreAfterCall : Result Ran RunFault → RunningState → RunningState → PureGroundValue → ℕ → Type 0
StoreAfterCall (Err (fault.Memory _)) old new v units = Unit {0}
StoreAfterCall answer old new v units =
    (g : ℕ) → exported (module_of old.wasm) (codes "call") ≡ Some g → IsStoreAfter (call_end old g v units)
    (store_of new)

-- all but the store stays as it is
pub record IsSameFunction (old new : RunningState) : Type 0 where
  pub wasm_is : new.wasm ≡ old.wasm
  pub function_is : new.function ≡ old.function
  pub argument_is : new.argument ≡ old.argument
  pub result_is : new.result ≡ old.result

-- A value comes of a ground type alone and is of it; a function comes of a function type alone and has its types.
abbrev pub HasStartType : Result Began RunFault → KernelType → Type 0
HasStartType (Ok (began.Value v left)) (of_ground t) = HasGroundType t (ground_value_of v)
HasStartType (Ok (began.Value v left)) (to s t) = ⊥
HasStartType (Ok (began.Function r left)) (of_ground t) = ⊥
HasStartType (Ok (began.Function r left)) (to s t) = (r.argument ≡ s) × (r.result ≡ t)
HasStartType _ k = Unit {0}

-- a call gives no function, and a value of the result type
abbrev pub HasCallType : Result Ran RunFault → GroundType → Type 0
HasCallType (Ok (ran.Value v left)) t = HasGroundType t (ground_value_of v)
HasCallType (Ok (ran.Function i left)) t = ⊥
HasCallType _ t = Unit {0}

-- no more units are left than were given
abbrev pub StartLeavesAtMost : Result Began RunFault → ℕ → Type 0
StartLeavesAtMost (Ok (began.Value v left)) units = left ≤ units
StartLeavesAtMost (Ok (began.Function r left)) units = left ≤ units
StartLeavesAtMost _ units = Unit {0}

abbrev pub CallLeavesAtMost : Result Ran RunFault → ℕ → Type 0
CallLeavesAtMost (Ok (ran.Value v left)) units = left ≤ units
CallLeavesAtMost (Ok (ran.Function i left)) units = left ≤ units
CallLeavesAtMost _ units = Unit {0}

-- unless memory was wanting, the argument's integers have 64 bits
abbrev pub FitsUnlessMemory : Result Ran RunFault → PureGroundValue → Type 0
FitsUnlessMemory (Err (fault.Memory _)) v = Unit {0}
FitsUnlessMemory _ v = FitsWords v
