-- Invocations that give one word, on an instance.
use Rattle.std.specs.Prelude.{ℕ, ◌+◌, ◌≡◌, if◌then◌else◌, List, [], ◌∷◌, map, Option, Some, None}
use Rattle.mw_term.specs.Terms.{GroundType, ground_value_of}
use Rattle.mw_term.specs.declared.value.GroundValue.{GroundValue}
use Rattle.mw_term.specs.declared.value.Limit.TheVariants.{Fuel, Heap, KernelSize}
use Rattle.mw_term.specs.declared.value.TrapKind.TheVariants as kind
use Rattle.mw_meaning.specs.Shapes.{Exports, IsWordOf}
use Rattle.mw_wasm.specs.declared.modules.FuncType.{FuncType}
use Rattle.mw_wasm.specs.declared.modules.Module.{Module}
use Rattle.mw_wasm.specs.declared.values.Value.{Value}
use Rattle.mw_wasm.specs.declared.values.Value.TheVariants.{I64}
use Rattle.mw_wasm.specs.declared.values.ValType.TheVariants.{I64 as i64}
use Rattle.mw_wasm.specs.declared.values.Trap.{Trap}
use Rattle.mw_wasm.specs.declared.values.Trap.TheVariants as traps
use Rattle.mw_wasm.specs.Execution.{End, ended, trapped, spent}
use Rattle.mw_wasm.specs.NumericTypes.{type_of_value}
use Rattle.mw_wasm.specs.Store.{Memory, Store, is_inside, read_bytes}
use Rattle.mw_wasm.specs.Syntax.{PureModule}
use Rattle.mw_wasm.specs.Validity.{IsValid}
use Rattle.mw_wasm.specs.Views.{module_of}
use Rattle.mw_exec.specs.declared.ended.Ended.{Ended}
use Rattle.mw_exec.specs.declared.ended.Ended.TheVariants as ends
use Rattle.mw_kernel.specs.declared.outcome.Outcome.{Outcome}
use Rattle.mw_kernel.specs.declared.outcome.Outcome.TheVariants as outcome
use Rattle.mw_kernel.specs.RunningStates.{IsStoreOf}
use Rattle.mw_kernel.specs.KernelAnswers.{IsValueAt}

-- a function of a valid module that gives one i64, with arguments of its types, on a store of the module
pub record GivesWord (wasm : Module) (st : Store) (name : List ℕ) (args : List Value) : Type 0 where
  pub type : FuncType
  pub valid : IsValid (module_of wasm)
  pub store : IsStoreOf (module_of wasm) st
  pub is_there : Exports (module_of wasm) name type
  pub fit : map type_of_value args ≡ type.params
  pub word : type.results ≡ i64 ∷ []

-- an end with one i64, or without a result
abbrev pub IsOneWord : Ended → Type 0
IsOneWord (ends.Ended (Some (I64 n)) left) = Unit {0}
IsOneWord (ends.Ended _ left) = ⊥
IsOneWord _ = Unit {0}

-- a trap that no kernel has
abbrev pub IsOtherTrap : Trap → Type 0
IsOtherTrap traps.Divide = ⊥
IsOtherTrap traps.Overflow = ⊥
IsOtherTrap traps.OutOfBounds = ⊥
IsOtherTrap _ = Unit {0}

-- what an end is to a kernel
abbrev pub IsOutcomeOf : Ended → Outcome → Type 0
IsOutcomeOf (ends.Ended (Some (I64 n)) left) (outcome.Word m units) = (m ≡ n) × (units ≡ left)
IsOutcomeOf (ends.Trapped traps.Divide) (outcome.Trap kind.Divide) = Unit {0}
IsOutcomeOf (ends.Trapped traps.Overflow) (outcome.Trap kind.Overflow) = Unit {0}
IsOutcomeOf (ends.Trapped traps.OutOfBounds) (outcome.Bound Heap) = Unit {0}
IsOutcomeOf (ends.Trapped t) outcome.Stray = IsOtherTrap t
IsOutcomeOf ends.Spent (outcome.Bound Fuel) = Unit {0}
IsOutcomeOf _ _ = ⊥

-- the same of an invocation, with the store that it left
abbrev pub EndsAsOutcome : Outcome → Store → End → Type 0
EndsAsOutcome (outcome.Word n units) after e = e ≡ ended after (I64 n ∷ []) units
EndsAsOutcome (outcome.Trap kind.Divide) after e = e ≡ trapped traps.Divide after
EndsAsOutcome (outcome.Trap kind.Overflow) after e = e ≡ trapped traps.Overflow after
EndsAsOutcome (outcome.Bound Heap) after e = e ≡ trapped traps.OutOfBounds after
EndsAsOutcome (outcome.Bound Fuel) after e = e ≡ spent
EndsAsOutcome (outcome.Bound KernelSize) after e = ⊥
EndsAsOutcome outcome.Stray after e = (t : Trap) × IsOtherTrap t × (e ≡ trapped t after)

-- unless the units are spent, what is left is again a store of the module
abbrev pub LeavesStore : Outcome → PureModule → Store → Type 0
LeavesStore (outcome.Bound Fuel) m after = Unit {0}
LeavesStore _ m after = IsStoreOf m after

-- what is read at a word: its value of the ground type, or none where it is the word of none
abbrev pub IsReadAt : GroundType → Option GroundValue → ℕ → Memory → Type 0
IsReadAt t (Some v) n memory = IsValueAt t (ground_value_of v) n memory
IsReadAt t None n memory = IsWordOf t n memory → ⊥

-- the two words in the 16 bytes from an address on, where all of them are below the memory's length
abbrev pub parts_in : ℕ → Memory → Option (ℕ × ℕ)
parts_in at m = if is_inside m at 16 then Some (read_bytes 8 at m, read_bytes 8 (at + 8) m) else None
