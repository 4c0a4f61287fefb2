-- Worked examples of execution. Values are lists with the last one first, and arguments lists with the first one first.
use Rattle.std.specs.Prelude.{◌≡◌, ℕ, suc, ◌+◌, ◌-◌, ◌*◌, ◌^◌, ◌<◌, [], ◌∷◌, Some, None, Ok, slice_get}
use Rattle.mw_wasm.specs.declared.values.Value.{Value}
use Rattle.mw_wasm.specs.declared.values.Value.TheVariants.{I64}
use Rattle.mw_wasm.specs.declared.values.Trap.TheVariants.{OutOfBounds, Uninitialized}
use Rattle.mw_wasm.specs.declared.numbers.StoreOp.TheVariants as store_op
use Rattle.mw_wasm.specs.Syntax.{end, next, loop, br, call_indirect, const_i32, const_i64, store, PureModule}
use Rattle.mw_wasm.specs.Store.{Store}
use Rattle.mw_wasm.specs.Reduction.{nothing, code_then}
use Rattle.mw_wasm.specs.Execution.{ended, trapped, spent, execution}
use Rattle.mw_wasm.specs.Instances.{exported, instantiated, invoked}
use Rattle.mw_wasm.specs.ExampleModules.{init_name, call_name, example_a, example_b}

-- the constant module has an instance, and its init answers 7 with all units left
pub record InitAnswersSeven : Type 0 where
  pub instance : Store
  pub instance_is : instantiated example_a ≡ Ok instance
  pub init_is : exported example_a init_name ≡ Some 0
  pub answers_seven : (n : ℕ) → invoked example_a instance 0 [] n ≡ ended instance (I64 7 ∷ []) n

-- The cube's module has an instance. Its init makes a closure with all units left. Then call answers 5 with 125, and
-- after that -2 with -8, each with exactly one unit spent; with no unit it is spent.
pub record CubeIsCalledTwice : Type 0 where
  pub instance : Store
  pub instance_is : instantiated example_b ≡ Ok instance
  pub init_is : exported example_b init_name ≡ Some 1
  pub call_is : exported example_b call_name ≡ Some 2
  pub closure : Value
  pub made : Store
  pub makes : (n : ℕ) → invoked example_b instance 1 [] n ≡ ended made (closure ∷ []) n
  pub called : Store
  pub cube_of_five : (n : ℕ) → invoked example_b made 2 (closure ∷ I64 5 ∷ []) (suc n) ≡ ended called (I64 125 ∷ []) n
  pub again : Store
  pub cube_of_minus_two : (n : ℕ) → invoked example_b called 2 (closure ∷ I64 (2 ^ 64 - 2) ∷ []) (suc n)
      ≡ ended again (I64 (2 ^ 64 - 8) ∷ []) n
  pub needs_a_unit : invoked example_b made 2 (closure ∷ I64 5 ∷ []) 0 ≡ spent

-- a loop that branches to itself is spent, however many units there are
abbrev pub LoopIsSpent : Type 0
LoopIsSpent = (m : PureModule) (n : ℕ) (st : Store)
    → execution m n st (code_then (next (loop None (next (br 0) end)) end) nothing) ≡ spent

-- an i64.store of which a byte lies past the memory's end traps, and nothing is written
abbrev pub StoreOutOfBoundsTraps : Type 0
StoreOutOfBoundsTraps =
    (m : PureModule) (n : ℕ) (st : Store) (address value align offset : ℕ) → st.memory.pages * 65536 < address + offset
    + 8
    → execution m n st
    (code_then (next (const_i32 address) (next (const_i64 value) (next (store store_op.I64 align offset) end)))
    nothing) ≡ trapped OutOfBounds st

-- an indirect call of an element that holds no function traps before it looks at the units
abbrev pub EmptyElementTraps : Type 0
EmptyElementTraps = (m : PureModule) (st : Store) (i t : ℕ) → slice_get st.table i ≡ Some None
    → execution m 0 st (code_then (next (const_i32 i) (next (call_indirect t) end)) nothing) ≡ trapped Uninitialized st
