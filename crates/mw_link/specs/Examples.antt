-- Worked examples of linked modules.
use Rattle.std.specs.Prelude.{◌≡◌, ℕ, suc, pos, true, List, [], ◌∷◌, ◌++◌, replicate, Some, Ok, codes}
use Rattle.mw_term.specs.Terms.{num}
use Rattle.mw_wasm.specs.declared.modules.Exported.TheVariants.{Func}
use Rattle.mw_wasm.specs.declared.modules.FuncType.{FuncType}
use Rattle.mw_wasm.specs.declared.values.ValType.TheVariants.{I32, I64}
use Rattle.mw_wasm.specs.declared.numbers.IntOp.TheVariants as op
use Rattle.mw_wasm.specs.declared.numbers.NumOp.TheVariants as number
use Rattle.mw_wasm.specs.declared.numbers.LoadOp.TheVariants as load_op
use Rattle.mw_wasm.specs.declared.numbers.StoreOp.TheVariants as store_op
use Rattle.mw_wasm.specs.Syntax.{Instruction, Code, end, next, loop, cond, br, call_indirect, local_get, local_set}
use Rattle.mw_wasm.specs.Syntax.{local_tee, global_get, global_set, load, store, const_i32, const_i64, numeric}
use Rattle.mw_wasm.specs.declared.values.Value.TheVariants.{I64 as V64}
use Rattle.mw_wasm.specs.Store.{Store}
use Rattle.mw_wasm.specs.Execution.{ended, spent}
use Rattle.mw_wasm.specs.Instances.{instantiated, invoked}
use Rattle.mw_encode.specs.Encoding.{encoding}
use Rattle.mw_gen.specs.Examples as examples
use Rattle.mw_link.specs.Linked.{Kernel, linked}

-- code of instructions in order
abbrev pub in_order : List Instruction → Code
in_order [] = end
in_order (i ∷ is) = next i (in_order is)

-- functions from so many words to a word
abbrev pub of_words : ℕ → FuncType
of_words n = record { params = replicate n I64; results = I64 ∷ [] }

-- kernel a : int = close .<7>.
abbrev pub seven : List Kernel
seven = record { name = codes "a"; code = num (pos 7); kind = examples.int_kernel } ∷ []

abbrev pub SevenIsLinked : Type 0
SevenIsLinked = linked seven ≡ record {
  types = of_words 2 ∷ of_words 0 ∷ [];
  funcs = record { kind = 1; locals = []; body = in_order (const_i32 0 ∷ global_set 0 ∷ const_i64 7 ∷ []) } ∷ [];
  table = Some record { min = 0; max = Some 0 };
  memory = Some record { min = 64; max = Some 64 };
  globals = record { kind = I32; variable = true; init = in_order (const_i32 0 ∷ []) } ∷ [];
  exports = record { name = codes "a.init"; what = Func 0 } ∷ [];
  elements = [];
  segments = [];
}

abbrev pub SevenHas70Bytes : Type 0
SevenHas70Bytes = encoding (linked seven) ≡
    0x00 ∷ 0x61 ∷ 0x73 ∷ 0x6D ∷ 0x01 ∷ 0x00 ∷ 0x00 ∷ 0x00 ∷ 0x01 ∷ 0x0B ∷ 0x02 ∷ 0x60 ∷ 0x02 ∷ 0x7E ∷ 0x7E ∷ 0x01 ∷ 0x7E
    ∷ 0x60 ∷ 0x00 ∷ 0x01 ∷ 0x7E ∷ 0x03 ∷ 0x02 ∷ 0x01 ∷ 0x01 ∷ 0x04 ∷ 0x05 ∷ 0x01 ∷ 0x70 ∷ 0x01 ∷ 0x00 ∷ 0x00 ∷ 0x05
    ∷ 0x04 ∷ 0x01 ∷ 0x01 ∷ 0x40 ∷ 0x40 ∷ 0x06 ∷ 0x06 ∷ 0x01 ∷ 0x7F ∷ 0x01 ∷ 0x41 ∷ 0x00 ∷ 0x0B ∷ 0x07 ∷ 0x0A ∷ 0x01
    ∷ 0x06 ∷ 0x61 ∷ 0x2E ∷ 0x69 ∷ 0x6E ∷ 0x69 ∷ 0x74 ∷ 0x00 ∷ 0x00 ∷ 0x0A ∷ 0x0A ∷ 0x01 ∷ 0x08 ∷ 0x00 ∷ 0x41 ∷ 0x00
    ∷ 0x24 ∷ 0x00 ∷ 0x42 ∷ 0x07 ∷ 0x0B ∷ []

-- the cube and the function that counts down, in one module
abbrev pub two_kernels : List Kernel
two_kernels =
    record { name = codes "cube"; code = examples.cube; kind = examples.int_to_int }
    ∷ record { name = codes "down"; code = examples.down; kind = examples.int_to_int } ∷ []

-- x * (x * (x * 1)) of the argument
abbrev pub cube_body : Code
cube_body =
    let times = numeric (number.I64 op.Mul) in
    in_order (local_get 1 ∷ local_get 1 ∷ local_get 1 ∷ const_i64 1 ∷ times ∷ times ∷ times ∷ [])

-- a loop that counts the argument down to 0
abbrev pub down_body : Code
down_body =
    let less = local_get 1 ∷ const_i64 1 ∷ numeric (number.I64 op.Sub) ∷ local_set 1 ∷ br 1 ∷ [] in
    let choice = cond (Some I64) (in_order (const_i64 0 ∷ [])) (in_order less) in
    let is_none = numeric (number.I64 op.Eq) ∷ numeric number.ExtendU ∷ numeric number.Wrap ∷ choice ∷ [] in
    in_order (loop (Some I64) (in_order (local_get 1 ∷ const_i64 0 ∷ is_none)) ∷ [])

-- the heap given back, a closure of function k without free variables, and the rest
abbrev pub init_body : ℕ → List Instruction → Code
init_body k rest =
    let written = const_i64 k ∷ store store_op.I64 3 0 ∷ global_get 0 ∷ numeric number.ExtendU ∷ [] in
    let raised = global_get 0 ∷ const_i32 8 ∷ numeric (number.I32 op.Add) ∷ global_set 0 ∷ [] in
    in_order (const_i32 0 ∷ global_set 0 ∷ global_get 0 ∷ [] ++ written ++ raised ++ rest)

-- the application of the closure in local 0 to local 1, and then the heap as it was
abbrev pub call_body : Code
call_body =
    let spared = global_get 0 ∷ local_set 4 ∷ local_get 0 ∷ local_get 1 ∷ local_set 3 ∷ local_tee 2 ∷ [] in
    let called = local_get 3 ∷ local_get 2 ∷ numeric number.Wrap ∷ load load_op.I32 2 0 ∷ call_indirect 0 ∷ [] in
    in_order (spared ++ called ++ local_get 4 ∷ global_set 0 ∷ [])

abbrev pub TwoAreLinked : Type 0
TwoAreLinked = linked two_kernels ≡ record {
  types = of_words 2 ∷ of_words 0 ∷ of_words 2 ∷ of_words 2 ∷ [];
  funcs =
      record { kind = 0; locals = []; body = cube_body }
      ∷ record { kind = 0; locals = []; body = down_body }
      ∷ record { kind = 1; locals = []; body = init_body 0 [] }
      ∷ record { kind = 2; locals = I64 ∷ I64 ∷ I32 ∷ []; body = call_body }
      ∷ record { kind = 1; locals = I64 ∷ []; body = init_body 1 (local_set 0 ∷ local_get 0 ∷ []) }
      ∷ record { kind = 3; locals = I64 ∷ I64 ∷ I32 ∷ []; body = call_body }
      ∷ [];
  table = Some record { min = 2; max = Some 2 };
  memory = Some record { min = 64; max = Some 64 };
  globals = record { kind = I32; variable = true; init = in_order (const_i32 0 ∷ []) } ∷ [];
  exports =
      record { name = codes "cube.init"; what = Func 2 }
      ∷ record { name = codes "cube.call"; what = Func 3 }
      ∷ record { name = codes "down.init"; what = Func 4 }
      ∷ record { name = codes "down.call"; what = Func 5 }
      ∷ [];
  elements = record { offset = in_order (const_i32 0 ∷ []); funcs = 0 ∷ 1 ∷ [] } ∷ [];
  segments = [];
}

abbrev pub TwoHaveTheseBytes : Type 0
TwoHaveTheseBytes = encoding (linked two_kernels) ≡
    0x00 ∷ 0x61 ∷ 0x73 ∷ 0x6D ∷ 0x01 ∷ 0x00 ∷ 0x00 ∷ 0x00 ∷ 0x01 ∷ 0x17 ∷ 0x04 ∷ 0x60 ∷ 0x02 ∷ 0x7E ∷ 0x7E ∷ 0x01 ∷ 0x7E
    ∷ 0x60 ∷ 0x00 ∷ 0x01 ∷ 0x7E ∷ 0x60 ∷ 0x02 ∷ 0x7E ∷ 0x7E ∷ 0x01 ∷ 0x7E ∷ 0x60 ∷ 0x02 ∷ 0x7E ∷ 0x7E ∷ 0x01 ∷ 0x7E
    ∷ 0x03 ∷ 0x07 ∷ 0x06 ∷ 0x00 ∷ 0x00 ∷ 0x01 ∷ 0x02 ∷ 0x01 ∷ 0x03 ∷ 0x04 ∷ 0x05 ∷ 0x01 ∷ 0x70 ∷ 0x01 ∷ 0x02 ∷ 0x02
    ∷ 0x05 ∷ 0x04 ∷ 0x01 ∷ 0x01 ∷ 0x40 ∷ 0x40 ∷ 0x06 ∷ 0x06 ∷ 0x01 ∷ 0x7F ∷ 0x01 ∷ 0x41 ∷ 0x00 ∷ 0x0B ∷ 0x07 ∷ 0x31
    ∷ 0x04 ∷ 0x09 ∷ 0x63 ∷ 0x75 ∷ 0x62 ∷ 0x65 ∷ 0x2E ∷ 0x69 ∷ 0x6E ∷ 0x69 ∷ 0x74 ∷ 0x00 ∷ 0x02 ∷ 0x09 ∷ 0x63 ∷ 0x75
    ∷ 0x62 ∷ 0x65 ∷ 0x2E ∷ 0x63 ∷ 0x61 ∷ 0x6C ∷ 0x6C ∷ 0x00 ∷ 0x03 ∷ 0x09 ∷ 0x64 ∷ 0x6F ∷ 0x77 ∷ 0x6E ∷ 0x2E ∷ 0x69
    ∷ 0x6E ∷ 0x69 ∷ 0x74 ∷ 0x00 ∷ 0x04 ∷ 0x09 ∷ 0x64 ∷ 0x6F ∷ 0x77 ∷ 0x6E ∷ 0x2E ∷ 0x63 ∷ 0x61 ∷ 0x6C ∷ 0x6C ∷ 0x00
    ∷ 0x05 ∷ 0x09 ∷ 0x08 ∷ 0x01 ∷ 0x00 ∷ 0x41 ∷ 0x00 ∷ 0x0B ∷ 0x02 ∷ 0x00 ∷ 0x01 ∷ 0x0A ∷ 0xA5 ∷ 0x01 ∷ 0x06 ∷ 0x0D
    ∷ 0x00 ∷ 0x20 ∷ 0x01 ∷ 0x20 ∷ 0x01 ∷ 0x20 ∷ 0x01 ∷ 0x42 ∷ 0x01 ∷ 0x7E ∷ 0x7E ∷ 0x7E ∷ 0x0B ∷ 0x1B ∷ 0x00 ∷ 0x03
    ∷ 0x7E ∷ 0x20 ∷ 0x01 ∷ 0x42 ∷ 0x00 ∷ 0x51 ∷ 0xAD ∷ 0xA7 ∷ 0x04 ∷ 0x7E ∷ 0x42 ∷ 0x00 ∷ 0x05 ∷ 0x20 ∷ 0x01 ∷ 0x42
    ∷ 0x01 ∷ 0x7D ∷ 0x21 ∷ 0x01 ∷ 0x0C ∷ 0x01 ∷ 0x0B ∷ 0x0B ∷ 0x0B ∷ 0x17 ∷ 0x00 ∷ 0x41 ∷ 0x00 ∷ 0x24 ∷ 0x00 ∷ 0x23
    ∷ 0x00 ∷ 0x42 ∷ 0x00 ∷ 0x37 ∷ 0x03 ∷ 0x00 ∷ 0x23 ∷ 0x00 ∷ 0xAD ∷ 0x23 ∷ 0x00 ∷ 0x41 ∷ 0x08 ∷ 0x6A ∷ 0x24 ∷ 0x00
    ∷ 0x0B ∷ 0x21 ∷ 0x02 ∷ 0x02 ∷ 0x7E ∷ 0x01 ∷ 0x7F ∷ 0x23 ∷ 0x00 ∷ 0x21 ∷ 0x04 ∷ 0x20 ∷ 0x00 ∷ 0x20 ∷ 0x01 ∷ 0x21
    ∷ 0x03 ∷ 0x22 ∷ 0x02 ∷ 0x20 ∷ 0x03 ∷ 0x20 ∷ 0x02 ∷ 0xA7 ∷ 0x28 ∷ 0x02 ∷ 0x00 ∷ 0x11 ∷ 0x00 ∷ 0x00 ∷ 0x20 ∷ 0x04
    ∷ 0x24 ∷ 0x00 ∷ 0x0B ∷ 0x1D ∷ 0x01 ∷ 0x01 ∷ 0x7E ∷ 0x41 ∷ 0x00 ∷ 0x24 ∷ 0x00 ∷ 0x23 ∷ 0x00 ∷ 0x42 ∷ 0x01 ∷ 0x37
    ∷ 0x03 ∷ 0x00 ∷ 0x23 ∷ 0x00 ∷ 0xAD ∷ 0x23 ∷ 0x00 ∷ 0x41 ∷ 0x08 ∷ 0x6A ∷ 0x24 ∷ 0x00 ∷ 0x21 ∷ 0x00 ∷ 0x20 ∷ 0x00
    ∷ 0x0B ∷ 0x21 ∷ 0x02 ∷ 0x02 ∷ 0x7E ∷ 0x01 ∷ 0x7F ∷ 0x23 ∷ 0x00 ∷ 0x21 ∷ 0x04 ∷ 0x20 ∷ 0x00 ∷ 0x20 ∷ 0x01 ∷ 0x21
    ∷ 0x03 ∷ 0x22 ∷ 0x02 ∷ 0x20 ∷ 0x03 ∷ 0x20 ∷ 0x02 ∷ 0xA7 ∷ 0x28 ∷ 0x02 ∷ 0x00 ∷ 0x11 ∷ 0x00 ∷ 0x00 ∷ 0x20 ∷ 0x04
    ∷ 0x24 ∷ 0x00 ∷ 0x0B ∷ []

-- no kernel at all
abbrev pub NoneIsLinked : Type 0
NoneIsLinked = encoding (linked []) ≡
    0x00 ∷ 0x61 ∷ 0x73 ∷ 0x6D ∷ 0x01 ∷ 0x00 ∷ 0x00 ∷ 0x00 ∷ 0x01 ∷ 0x0B ∷ 0x02 ∷ 0x60 ∷ 0x02 ∷ 0x7E ∷ 0x7E ∷ 0x01 ∷ 0x7E
    ∷ 0x60 ∷ 0x00 ∷ 0x01 ∷ 0x7E ∷ 0x04 ∷ 0x05 ∷ 0x01 ∷ 0x70 ∷ 0x01 ∷ 0x00 ∷ 0x00 ∷ 0x05 ∷ 0x04 ∷ 0x01 ∷ 0x01 ∷ 0x40
    ∷ 0x40 ∷ 0x06 ∷ 0x06 ∷ 0x01 ∷ 0x7F ∷ 0x01 ∷ 0x41 ∷ 0x00 ∷ 0x0B ∷ []

-- On one instance: `init` of down and its call with 3, which has exactly the 4 units that it needs; then `init` of
-- cube, on the store as it then is, and its call with 5. After that down's closure is no more: its word is the cube's
-- now.
pub record OneAfterTheOther : Type 0 where
  pub begun : Store
  pub is_begun : instantiated (linked two_kernels) ≡ Ok begun
  pub down_made : Store
  pub makes_down : (n : ℕ) → invoked (linked two_kernels) begun 4 [] n ≡ ended down_made (V64 0 ∷ []) n
  pub down_called : Store
  pub calls_down : (n : ℕ) → invoked (linked two_kernels) down_made 5 (V64 0 ∷ V64 3 ∷ []) (suc (suc (suc (suc n))))
      ≡ ended down_called (V64 0 ∷ []) n
  pub down_needs_four : invoked (linked two_kernels) down_made 5 (V64 0 ∷ V64 3 ∷ []) 3 ≡ spent
  pub cube_made : Store
  pub makes_cube : (n : ℕ) → invoked (linked two_kernels) down_called 2 [] n ≡ ended cube_made (V64 0 ∷ []) n
  pub cube_called : Store
  pub calls_cube : (n : ℕ) → invoked (linked two_kernels) cube_made 3 (V64 0 ∷ V64 5 ∷ []) (suc n)
      ≡ ended cube_called (V64 125 ∷ []) n
  pub last : Store
  pub cube_answers_for_down : (n : ℕ) → invoked (linked two_kernels) cube_called 5 (V64 0 ∷ V64 3 ∷ []) (suc n)
      ≡ ended last (V64 27 ∷ []) n
