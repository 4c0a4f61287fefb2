-- Two modules that a compiler could emit, for worked examples: a constant, and the cube of an argument.
use Rattle.std.specs.Prelude.{ℕ, true, List, [], ◌∷◌, Some}
use Rattle.mw_wasm.specs.declared.values.ValType.TheVariants.{I32, I64}
use Rattle.mw_wasm.specs.declared.numbers.NumOp.TheVariants as number
use Rattle.mw_wasm.specs.declared.numbers.IntOp.TheVariants.{Add, Mul}
use Rattle.mw_wasm.specs.declared.numbers.LoadOp.TheVariants as load_op
use Rattle.mw_wasm.specs.declared.numbers.StoreOp.TheVariants as store_op
use Rattle.mw_wasm.specs.declared.modules.Limits.{Limits}
use Rattle.mw_wasm.specs.declared.modules.FuncType.{FuncType}
use Rattle.mw_wasm.specs.declared.modules.Exported.TheVariants.{Func}
use Rattle.mw_wasm.specs.Syntax.{Instruction, Code, call_indirect, local_get, local_set, local_tee, global_get}
use Rattle.mw_wasm.specs.Syntax.{global_set, load, store, const_i32, const_i64, numeric, end, next, Global, PureModule}

-- instructions in order
abbrev pub code_of_list : List Instruction → Code
code_of_list [] = end
code_of_list (i ∷ is) = next i (code_of_list is)

-- (i64, i64) -> i64, the type of a closure's function
abbrev pub closure_type : FuncType
closure_type = record { params = I64 ∷ I64 ∷ []; results = I64 ∷ [] }

-- () -> i64
abbrev pub init_type : FuncType
init_type = record { params = []; results = I64 ∷ [] }

-- i32.const 0
abbrev pub zero_code : Code
zero_code = next (const_i32 0) end

-- one memory of 64 pages, no more and no less
abbrev pub example_memory : Limits
example_memory = record { min = 64; max = Some 64 }

-- where free memory begins: a variable i32, at first 0
abbrev pub heap_top : Global
heap_top = record { kind = I32; variable = true; init = zero_code }

-- the name "init"
abbrev pub init_name : List ℕ
init_name = 0x69 ∷ 0x6E ∷ 0x69 ∷ 0x74 ∷ []

-- the name "call"
abbrev pub call_name : List ℕ
call_name = 0x63 ∷ 0x61 ∷ 0x6C ∷ 0x6C ∷ []

-- init answers 7
abbrev pub example_a : PureModule
example_a = record {
  types = closure_type ∷ init_type ∷ [];
  funcs = record { kind = 1; locals = []; body = next (const_i64 7) end } ∷ [];
  table = Some record { min = 0; max = Some 0 };
  memory = Some example_memory;
  globals = heap_top ∷ [];
  exports = record { name = init_name; what = Func 0 } ∷ [];
  elements = [];
  segments = [];
}

-- x * (x * (x * 1)), of the argument in local 1
abbrev pub cube_body : Code
cube_body = code_of_list (local_get 1 ∷ local_get 1 ∷ local_get 1 ∷ const_i64 1 ∷ numeric (number.I64 Mul)
    ∷ numeric (number.I64 Mul) ∷ numeric (number.I64 Mul) ∷ [])

-- makes a closure of function 0 at the heap's top and gives its address
abbrev pub closure_body : Code
closure_body = code_of_list (global_get 0 ∷ const_i64 0 ∷ store store_op.I64 3 0 ∷ global_get 0 ∷ numeric number.ExtendU
    ∷ global_get 0 ∷ const_i32 8 ∷ numeric (number.I32 Add) ∷ global_set 0 ∷ [])

-- calls the closure in local 0 with local 1, and frees what the call took
abbrev pub call_body : Code
call_body = code_of_list (global_get 0 ∷ local_set 4 ∷ local_get 0 ∷ local_get 1 ∷ local_set 3 ∷ local_tee 2
    ∷ local_get 3 ∷ local_get 2
    ∷ numeric number.Wrap ∷ load load_op.I32 2 0 ∷ call_indirect 0 ∷ local_get 4 ∷ global_set 0 ∷ [])

-- init makes a closure of the cube, and call applies a closure to an integer
abbrev pub example_b : PureModule
example_b = record {
  types = closure_type ∷ init_type ∷ closure_type ∷ [];
  funcs = record { kind = 0; locals = []; body = cube_body }
      ∷ record { kind = 1; locals = []; body = closure_body }
      ∷ record { kind = 2; locals = I64 ∷ I64 ∷ I32 ∷ []; body = call_body } ∷ [];
  table = Some record { min = 1; max = Some 1 };
  memory = Some example_memory;
  globals = heap_top ∷ [];
  exports = record { name = init_name; what = Func 1 } ∷ record { name = call_name; what = Func 2 } ∷ [];
  elements = record { offset = zero_code; funcs = 0 ∷ [] } ∷ [];
  segments = [];
}
