-- What contracts see of an instance.
use Rattle.std.specs.Prelude.{ℕ, ◌≤◌, ◌*◌, List, Option, length}
use Rattle.mw_wasm.specs.declared.values.Value.{Value}
use Rattle.mw_wasm.specs.declared.modules.Module.{Module}
use Rattle.mw_wasm.specs.Store.{Store}
use Rattle.mw_wasm.specs.StateTypes.{StoreIsTyped}
use Rattle.mw_wasm.specs.Views.{module_of}
use Rattle.mw_validate.specs.Kept.{IsKept}
use Rattle.mw_exec.specs.declared.held.Contents.{Contents}
use Rattle.mw_exec.specs.Views.{memory_of}

-- its module, the values of its globals, the elements of its table, and its memory: how many pages, and the bytes up to
-- the highest one that was written
pub record InstanceState : Type 0 where
  pub wasm : Module
  pub globals : List Value
  pub table : List (Option ℕ)
  pub pages : ℕ
  pub bytes : List ℕ

-- an instance of this module that holds this
abbrev pub state_of : Module → Contents → InstanceState
state_of wasm h = record {
  wasm = wasm;
  globals = h.globals.items;
  table = h.table.items;
  pages = h.pages;
  bytes =
      h.bytes.items;
}

-- the store that an instance holds
abbrev pub store_in : InstanceState → Store
store_in i = record { globals = i.globals; table = i.table; memory = memory_of i.pages i.bytes }

-- Its module is valid, its bytes are within its pages, which are few, and its store is typed: so it can be invoked
-- again and again.
pub record IsReady (i : InstanceState) : Type 0 where
  pub kept : IsKept i.wasm
  pub bytes : length i.bytes ≤ i.pages * 65536
  pub pages : i.pages ≤ 65536
  pub typed : StoreIsTyped (module_of i.wasm) (store_in i)
