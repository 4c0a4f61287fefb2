-- The module that tests run.
use Rattle.std.specs.Prelude.{List, [], ◌∷◌, Some, None, codes}
use Rattle.mw_term.specs.declared.term.Base.TheVariants.{Int}
use Rattle.mw_term.specs.Terms.{GroundType, base, of_ground, to}
use Rattle.mw_meaning.specs.Shapes.{HasShape, init_type, call_type}
use Rattle.mw_wasm.specs.declared.modules.Exported.TheVariants as exported
use Rattle.mw_wasm.specs.declared.modules.FuncType.{FuncType}
use Rattle.mw_wasm.specs.declared.numbers.IntOp.TheVariants.{Add}
use Rattle.mw_wasm.specs.declared.numbers.LoadOp.TheVariants as load_op
use Rattle.mw_wasm.specs.declared.numbers.NumOp.TheVariants as number
use Rattle.mw_wasm.specs.declared.numbers.StoreOp.TheVariants as store_op
use Rattle.mw_wasm.specs.declared.values.ValType.TheVariants.{I64}
use Rattle.mw_wasm.specs.Syntax.{Code, const_i32, numeric, call, drop_value, local_get, load, store, end, next}
use Rattle.mw_wasm.specs.Validity.{CodeHasType, context_of}
use Rattle.mw_wasm.specs.Syntax.{Function, Exporting, DataSegment, PureModule}

-- `call` calls `init`, for a unit, and gives the sum of all arguments and function words so far, which it keeps at
-- address 8
abbrev pub call_body : Code
call_body =
    next (call 0) (next drop_value
    (next (const_i32 8)
    (next (const_i32 8) (next (load load_op.I64 3 0) (next (local_get 0) (next (numeric (number.I64 Add))
    (next (local_get 1)
    (next (numeric (number.I64 Add))
    (next (store store_op.I64 3 0) (next (const_i32 8) (next (load load_op.I64 3 0) end)))))))))))

abbrev pub test_types : List FuncType
test_types = init_type ∷ call_type (base Int) ∷ []

abbrev pub test_functions : Code → List Function
test_functions init = record { kind = 0; locals = []; body = init } ∷ record { kind = 1; locals = []; body = call_body }
    ∷ []

abbrev pub test_exports : List Exporting
test_exports = record { name = codes "init"; what = exported.Func 0 }
    ∷ record { name = codes "call"; what = exported.Func 1 } ∷ []

-- the words 1, 2, 32 and 32 from address 16 on, and the words 3 and 0 at the end
abbrev pub test_segments : List DataSegment
test_segments =
    record {
      offset = next (const_i32 16) end;
      bytes = 1 ∷ 0 ∷ 0 ∷ 0 ∷ 0 ∷ 0 ∷ 0 ∷ 0 ∷ 2 ∷ 0 ∷ 0 ∷ 0 ∷ 0 ∷ 0 ∷ 0 ∷ 0
          ∷ 32 ∷ 0 ∷ 0 ∷ 0 ∷ 0 ∷ 0 ∷ 0 ∷ 0 ∷ 32 ∷ 0 ∷ 0 ∷ 0 ∷ 0 ∷ 0 ∷ 0 ∷ 0 ∷ [];
    }
    ∷ record {
      offset = next (const_i32 65520) end;
      bytes = 3 ∷ 0 ∷ 0 ∷ 0 ∷ 0 ∷ 0 ∷ 0 ∷ 0 ∷ 0 ∷ 0 ∷ 0 ∷ 0 ∷ 0 ∷ 0 ∷ 0
          ∷ 0 ∷ [];
    } ∷ []

abbrev pub test_module : Code → PureModule
test_module init = record {
  types = test_types;
  funcs = test_functions init;
  table = None;
  memory = Some record { min = 1; max = None };
  globals = [];
  exports = test_exports;
  elements = [];
  segments = test_segments;
}

-- code of the type of `init`
abbrev pub IsInitCode : Code → Type 0
IsInitCode init = CodeHasType (record (context_of (test_module init)) { labels = (I64 ∷ []) ∷ []; results = I64 ∷ [] })
    init [] (I64 ∷ [])

-- it has the shape for each ground type, and for functions of integers
abbrev pub HasTestShapes : PureModule → Type 0
HasTestShapes m = ((t : GroundType) → HasShape m (of_ground t)) × HasShape m (to (base Int) (base Int))
