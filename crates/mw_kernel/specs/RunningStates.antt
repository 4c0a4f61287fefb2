-- What contracts see of a kept function.
use Rattle.std.specs.Prelude.{ℕ, ◌≡◌, ◌≤◌, Option, Some, None, Ok, codes}
use Rattle.mw_term.specs.declared.term.Ground.{Ground}
use Rattle.mw_term.specs.Terms.{GroundType, ground_of}
use Rattle.mw_meaning.specs.Shapes.{Exports, call_type}
use Rattle.mw_wasm.specs.declared.modules.Module.{Module}
use Rattle.mw_wasm.specs.Instances.{instantiated}
use Rattle.mw_wasm.specs.StateTypes.{StoreIsTyped}
use Rattle.mw_wasm.specs.Store.{Store}
use Rattle.mw_wasm.specs.Syntax.{PureModule}
use Rattle.mw_wasm.specs.Validity.{IsValid}
use Rattle.mw_wasm.specs.Views.{module_of}
use Rattle.mw_exec.specs.Instancing.{first_store}
use Rattle.mw_exec.specs.InstanceStates.{InstanceState, store_in}

-- The module and its instance, the word that `init` gave, and the kernel's argument and result types. There is no
-- instance after a call that ran out of units or of memory: the next one begins with a new instance.
pub record RunningState : Type 0 where
  pub wasm : Module
  pub held : Option InstanceState
  pub function : ℕ
  pub argument : GroundType
  pub result : GroundType

abbrev pub running_state : Module → Option InstanceState → ℕ → Ground → Ground → RunningState
running_state wasm held function argument result =
    record { wasm = wasm; held = held; function = function; argument = ground_of argument; result = ground_of result }

abbrev pub store_held : Module → Option InstanceState → Store
store_held wasm None = first_store (module_of wasm)
store_held wasm (Some i) = store_in i

-- the store that the next call runs on
abbrev pub store_of : RunningState → Store
store_of r = store_held r.wasm r.held

-- the store is typed, and its memory has few pages
pub record IsStoreOf (m : PureModule) (st : Store) : Type 0 where
  pub typed : StoreIsTyped m st
  pub few : st.memory.pages ≤ 65536

-- where there is an instance, it is one of the module
abbrev pub IsInstanceOf : Module → Option InstanceState → Type 0
IsInstanceOf wasm None = Unit {0}
IsInstanceOf wasm (Some i) = i.wasm ≡ wasm

-- a valid module with an instance, which exports `call` for arguments of the type, and a store of it
pub record IsRunnable (r : RunningState) : Type 0 where
  pub valid : IsValid (module_of r.wasm)
  pub begins : instantiated (module_of r.wasm) ≡ Ok (first_store (module_of r.wasm))
  pub call : Exports (module_of r.wasm) (codes "call") (call_type r.argument)
  pub instance : IsInstanceOf r.wasm r.held
  pub store : IsStoreOf (module_of r.wasm) (store_of r)
