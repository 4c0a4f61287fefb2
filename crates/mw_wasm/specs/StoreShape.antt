-- What invocations leave as it was.
use Rattle.std.specs.Prelude.{ℕ, ◌≡◌, List, Option}
use Rattle.mw_wasm.specs.declared.values.Value.{Value}
use Rattle.mw_wasm.specs.Syntax.{PureModule}
use Rattle.mw_wasm.specs.Store.{Store}
use Rattle.mw_wasm.specs.Act.{most_pages}
use Rattle.mw_wasm.specs.Execution.{ended}
use Rattle.mw_wasm.specs.Instances.{invoked}

-- the table, and a memory of as many pages as it may have
pub record HasShape (m : PureModule) (table : List (Option ℕ)) (st : Store) : Type 0 where
  pub table_is : st.table ≡ table
  pub pages_are : st.memory.pages ≡ most_pages m.memory

-- Where the store had this shape before an invocation that ended, it has it after: no instruction changes the table,
-- and no memory grows past its maximum.
abbrev pub StoresKeepShape : Type 0
StoresKeepShape =
    (m : PureModule) (table : List (Option ℕ)) (st after : Store) (f : ℕ) (args vs : List Value) (n left : ℕ)
    → HasShape m table st → invoked m st f args n ≡ ended after vs left → HasShape m table after
