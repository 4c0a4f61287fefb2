-- Lists of instructions and modules that aren't valid, and next to them some that are.
use Rattle.std.specs.Prelude.{◌≡◌, ℕ, suc, true, false, IsSome, List, [], ◌∷◌, Some, None, slice_get}
use Rattle.mw_wasm.specs.declared.values.ValType.{ValType}
use Rattle.mw_wasm.specs.declared.values.ValType.TheVariants.{I32, I64}
use Rattle.mw_wasm.specs.declared.numbers.NumOp.TheVariants as number
use Rattle.mw_wasm.specs.declared.numbers.IntOp.TheVariants.{Add, Eqz}
use Rattle.mw_wasm.specs.declared.numbers.LoadOp.{LoadOp}
use Rattle.mw_wasm.specs.declared.numbers.LoadOp.TheVariants as load_op
use Rattle.mw_wasm.specs.declared.numbers.StoreOp.{StoreOp}
use Rattle.mw_wasm.specs.declared.numbers.StoreOp.TheVariants as store_op
use Rattle.mw_wasm.specs.declared.modules.Exported.{Exported}
use Rattle.mw_wasm.specs.declared.modules.Exported.TheVariants.{Func, Table, Memory, Global}
use Rattle.mw_wasm.specs.Syntax.{Instruction, unreachable, nop, loop, cond, br, br_if, give_back, call_indirect}
use Rattle.mw_wasm.specs.Syntax.{local_get, global_get, global_set, load, store, memory_size, memory_grow, const_i32}
use Rattle.mw_wasm.specs.Syntax.{const_i64, numeric, Exporting, PureModule}
use Rattle.mw_wasm.specs.Validity.{Context, HasType, CodeHasType, IsValid}
use Rattle.mw_wasm.specs.ExampleModules.{code_of_list}

-- the instructions have no type from these to any
abbrev pub HasNoTypeFrom : Context → List Instruction → List ValType → Type 0
HasNoTypeFrom c is ins = (outs : List ValType) → ¬ CodeHasType c (code_of_list is) ins outs

-- they have no type at all
abbrev pub HasNoType : Context → List Instruction → Type 0
HasNoType c is = (ins : List ValType) → HasNoTypeFrom c is ins

pub record InvalidLists : Type 0 where
  pub operand_missing : (c : Context) → HasNoTypeFrom c (numeric (number.I32 Add) ∷ []) []
  pub operand_of_wrong_type : (c : Context) → HasNoType c (const_i64 5 ∷ numeric (number.I32 Eqz) ∷ [])
  pub wrong_behind_unreachable : (c : Context) → HasNoType c (unreachable ∷ const_i64 5 ∷ numeric (number.I32 Eqz) ∷ [])
  pub operand_left : (c : Context) → ¬ CodeHasType c (code_of_list (const_i32 1 ∷ [])) [] []
  pub result_missing : (c : Context) → ¬ CodeHasType c (code_of_list (nop ∷ [])) [] (I32 ∷ [])
  pub no_label : (c : Context) → c.labels ≡ [] → HasNoType c (br 0 ∷ [])
  pub no_local : (c : Context) → c.locals ≡ [] → HasNoType c (local_get 0 ∷ [])
  pub no_table : (c : Context) → c.table ≡ None → HasNoType c (call_indirect 0 ∷ [])
  pub no_memory_to_load : (c : Context) → c.memory ≡ None → HasNoType c (load load_op.I32 0 0 ∷ [])
  pub no_memory_to_store : (c : Context) → c.memory ≡ None → HasNoType c (store store_op.I32 0 0 ∷ [])
  pub no_memory_to_grow : (c : Context) → c.memory ≡ None → HasNoType c (memory_grow ∷ [])
  pub no_memory_to_measure : (c : Context) → c.memory ≡ None → HasNoType c (memory_size ∷ [])
  pub constant_global_set : (c : Context) → slice_get c.globals 0 ≡ Some (I32, false) → HasNoType c (global_set 0 ∷ [])
  pub if_with_a_result_without_else : (c : Context)
      → HasNoType c (cond (Some I32) (code_of_list (const_i32 1 ∷ [])) (code_of_list []) ∷ [])
  pub return_without_result : (c : Context) → c.results ≡ I32 ∷ [] → HasNoTypeFrom c (give_back ∷ []) []
  pub return_of_wrong_type : (c : Context) → c.results ≡ I32 ∷ [] → HasNoType c (const_i64 5 ∷ give_back ∷ [])
  pub branch_without_result : (c : Context) → c.labels ≡ (I32 ∷ []) ∷ [] → HasNoTypeFrom c (br 0 ∷ []) []

-- a loop's label takes no operands, whatever the loop gives, and a return takes what is below its results as well
pub record ValidLists : Type 0 where
  pub loop_again : (c : Context) → HasType c (loop (Some I32) (code_of_list (br 0 ∷ []))) [] (I32 ∷ [])
  pub loop_again_if : (c : Context)
      → HasType c (loop (Some I32) (code_of_list (const_i32 1 ∷ br_if 0 ∷ const_i64 2 ∷ numeric (number.I64 Eqz) ∷ [])))
      [] (I32 ∷ [])
  pub variable_set : (c : Context) → slice_get c.globals 0 ≡ Some (I32, true) → HasType c (global_set 0) (I32 ∷ []) []
  pub return_above : (c : Context) → c.results ≡ I32 ∷ [] → HasType c give_back (I64 ∷ I32 ∷ []) []

-- a load to this type may be aligned to 2 ^ k bytes and to no more
abbrev pub LoadAlignedTo : LoadOp → ValType → ℕ → Type 0
LoadAlignedTo o t k = ((c : Context) (offset : ℕ) → IsSome c.memory → HasType c (load o k offset) (I32 ∷ []) (t ∷ []))
    × ((c : Context) (offset : ℕ) (ins outs : List ValType) → ¬ HasType c (load o (suc k) offset) ins outs)

-- and a store of this type
abbrev pub StoreAlignedTo : StoreOp → ValType → ℕ → Type 0
StoreAlignedTo o t k = ((c : Context) (offset : ℕ) → IsSome c.memory → HasType c (store o k offset) (I32 ∷ t ∷ []) [])
    × ((c : Context) (offset : ℕ) (ins outs : List ValType) → ¬ HasType c (store o (suc k) offset) ins outs)

pub record AlignmentRows : Type 0 where
  pub i32_load : LoadAlignedTo load_op.I32 I32 2
  pub i64_load : LoadAlignedTo load_op.I64 I64 3
  pub i32_load8_s : LoadAlignedTo load_op.I32S8 I32 0
  pub i32_load8_u : LoadAlignedTo load_op.I32U8 I32 0
  pub i32_load16_s : LoadAlignedTo load_op.I32S16 I32 1
  pub i32_load16_u : LoadAlignedTo load_op.I32U16 I32 1
  pub i64_load8_s : LoadAlignedTo load_op.I64S8 I64 0
  pub i64_load8_u : LoadAlignedTo load_op.I64U8 I64 0
  pub i64_load16_s : LoadAlignedTo load_op.I64S16 I64 1
  pub i64_load16_u : LoadAlignedTo load_op.I64U16 I64 1
  pub i64_load32_s : LoadAlignedTo load_op.I64S32 I64 2
  pub i64_load32_u : LoadAlignedTo load_op.I64U32 I64 2
  pub i32_store : StoreAlignedTo store_op.I32 I32 2
  pub i64_store : StoreAlignedTo store_op.I64 I64 3
  pub i32_store8 : StoreAlignedTo store_op.I32To8 I32 0
  pub i32_store16 : StoreAlignedTo store_op.I32To16 I32 1
  pub i64_store8 : StoreAlignedTo store_op.I64To8 I64 0
  pub i64_store16 : StoreAlignedTo store_op.I64To16 I64 1
  pub i64_store32 : StoreAlignedTo store_op.I64To32 I64 2

abbrev pub empty_module : PureModule
empty_module = record {
  types = [];
  funcs = [];
  table = None;
  memory = None;
  globals = [];
  exports = [];
  elements = [];
  segments = [];
}

-- one function of no parameters and no results, which does nothing
abbrev pub idle_module : PureModule
idle_module = record empty_module {
  types = record { params = []; results = [] } ∷ [];
  funcs =
      record { kind = 0; locals = []; body = code_of_list [] } ∷ [];
}

abbrev pub page_module : PureModule
page_module = record empty_module { memory = Some record { min = 1; max = Some 1 } }

-- an export under the name "a"
abbrev pub as_a : Exported → Exporting
as_a what = record { name = 97 ∷ []; what = what }

-- one i32 that stays, and begins so
abbrev pub of_global : List Instruction → PureModule
of_global is = record empty_module { globals = record { kind = I32; variable = false; init = code_of_list is } ∷ [] }

-- an empty data segment at an offset
abbrev pub with_data_at : List Instruction → PureModule → PureModule
with_data_at is m = record m { segments = record { offset = code_of_list is; bytes = [] } ∷ [] }

pub record InvalidModules : Type 0 where
  pub two_results : ¬ IsValid record empty_module { types = record { params = []; results = I32 ∷ I32 ∷ [] } ∷ [] }
  pub minimum_above_maximum : ¬ IsValid record empty_module { memory = Some record { min = 2; max = Some 1 } }
  pub minimum_of_65537_pages : ¬ IsValid record empty_module { memory = Some record { min = 65537; max = None } }
  pub maximum_of_65537_pages : ¬ IsValid record empty_module { memory = Some record { min = 1; max = Some 65537 } }
  pub table_above_maximum : ¬ IsValid record empty_module { table = Some record { min = 3; max = Some 2 } }
  pub name_twice : ¬ IsValid record idle_module {
    exports = as_a (Func 0) ∷ record { name = 98 ∷ []; what = Func 0 }
        ∷ as_a (Func 0) ∷ [];
  }
  pub function_past_exported : ¬ IsValid record idle_module { exports = as_a (Func 1) ∷ [] }
  pub no_memory_exported : ¬ IsValid record empty_module { exports = as_a (Memory 0) ∷ [] }
  pub second_memory_exported : ¬ IsValid record page_module { exports = as_a (Memory 1) ∷ [] }
  pub no_table_exported : ¬ IsValid record empty_module { exports = as_a (Table 0) ∷ [] }
  pub no_global_exported : ¬ IsValid record empty_module { exports = as_a (Global 0) ∷ [] }
  pub global_past_exported : ¬ IsValid record (of_global (const_i32 0 ∷ [])) { exports = as_a (Global 1) ∷ [] }
  pub element_without_table : ¬ IsValid record idle_module
      { elements = record { offset = code_of_list (const_i32 0 ∷ []); funcs = 0 ∷ [] } ∷ [] }
  pub element_past_functions : ¬ IsValid record idle_module {
    table = Some record { min = 1; max = None };
    elements =
        record { offset = code_of_list (const_i32 0 ∷ []); funcs = 1 ∷ [] } ∷ [];
  }
  pub data_without_memory : ¬ IsValid (with_data_at (const_i32 0 ∷ []) empty_module)
  pub offset_of_i64 : ¬ IsValid (with_data_at (const_i64 0 ∷ []) page_module)
  pub offset_of_a_global : ¬ IsValid
      (with_data_at (global_get 0 ∷ [])
      (record (of_global (const_i32 0 ∷ [])) { memory = Some record { min = 1; max = None } }))
  pub offset_of_nothing : ¬ IsValid (with_data_at [] page_module)
  pub global_of_wrong_type : ¬ IsValid (of_global (const_i64 0 ∷ []))
  pub global_of_two : ¬ IsValid (of_global (const_i32 0 ∷ const_i32 0 ∷ []))
  pub global_behind_nop : ¬ IsValid (of_global (nop ∷ const_i32 0 ∷ []))
  pub type_past : ¬ IsValid record idle_module { funcs = record { kind = 1; locals = []; body = code_of_list [] } ∷ [] }
  pub body_without_result : ¬ IsValid record idle_module { types = record { params = []; results = I32 ∷ [] } ∷ [] }
