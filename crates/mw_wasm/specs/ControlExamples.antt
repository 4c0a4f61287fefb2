-- Worked examples of control, segments and memory. Where nothing else is said the store is any, and stays as it was.
use Rattle.std.specs.Prelude.{◌≡◌, ℕ, suc, ◌-◌, ◌*◌, ◌^◌, List, [], ◌∷◌, Some, None, Err, IsOkAnd}
use Rattle.mw_wasm.specs.declared.values.Value.TheVariants.{I32}
use Rattle.mw_wasm.specs.declared.values.Trap.TheVariants.{UndefinedElement, WrongType}
use Rattle.mw_wasm.specs.declared.values.ValType.TheVariants as type
use Rattle.mw_wasm.specs.declared.numbers.NumOp.TheVariants as number
use Rattle.mw_wasm.specs.declared.numbers.IntOp.TheVariants.{Add}
use Rattle.mw_wasm.specs.declared.numbers.LoadOp.TheVariants as load_op
use Rattle.mw_wasm.specs.declared.numbers.StoreOp.TheVariants as store_op
use Rattle.mw_wasm.specs.Syntax.{Instruction, block, loop, cond, br, br_if, br_table, give_back, call, call_indirect}
use Rattle.mw_wasm.specs.Syntax.{drop_value, select, local_get, local_tee, load, store, memory_size, memory_grow}
use Rattle.mw_wasm.specs.Syntax.{const_i32, const_i64, numeric, ElementSegment, DataSegment, PureModule}
use Rattle.mw_wasm.specs.Store.{Store}
use Rattle.mw_wasm.specs.Execution.{End, ended, trapped, spent}
use Rattle.mw_wasm.specs.Instances.{element, segment, instantiated, invoked}
use Rattle.mw_wasm.specs.ExampleModules.{code_of_list}

-- a module of one function from i32 to i32
abbrev pub of_one_function : List Instruction → PureModule
of_one_function is = record {
  types = record { params = type.I32 ∷ []; results = type.I32 ∷ [] } ∷ record { params = []; results = [] } ∷ [];
  funcs = record { kind = 0; locals = []; body = code_of_list is } ∷ [];
  table = Some record { min = 2; max = None };
  memory = Some record { min = 1; max = Some 2 };
  globals = [];
  exports = [];
  elements = record { offset = code_of_list (const_i32 0 ∷ []); funcs = 0 ∷ [] } ∷ [];
  segments = [];
}

-- the function's answer, with n units, leaves this many
abbrev pub Answers : List Instruction → ℕ → ℕ → ℕ → ℕ → Type 0
Answers is argument n answer left = (st : Store) → invoked (of_one_function is) st 0 (I32 argument ∷ []) n
    ≡ ended st (I32 answer ∷ []) left

-- the answer spends nothing
abbrev pub AnswersFree : List Instruction → ℕ → ℕ → Type 0
AnswersFree is argument answer = (n : ℕ) → Answers is argument n answer n

abbrev pub Spent : List Instruction → ℕ → ℕ → Type 0
Spent is argument n = (st : Store) → invoked (of_one_function is) st 0 (I32 argument ∷ []) n ≡ spent

-- a branch takes the label's operands and drops those below
abbrev pub dropping : List Instruction
dropping = block (Some type.I32) (code_of_list (const_i32 1 ∷ const_i32 2 ∷ br 0 ∷ [])) ∷ []

-- a branch out of two blocks
abbrev pub out_of_two : List Instruction
out_of_two = block (Some type.I32)
    (code_of_list (block None (code_of_list (const_i32 5 ∷ br 1 ∷ [])) ∷ const_i32 6 ∷ [])) ∷ []

-- a return out of a block and a loop, over an operand
abbrev pub returning : List Instruction
returning = const_i32 1 ∷ block None (code_of_list (loop None (code_of_list (local_get 0 ∷ give_back ∷ [])) ∷ [])) ∷ []

-- a branch past all blocks of a body is a return
abbrev pub past_all : List Instruction
past_all = const_i32 1 ∷ block None (code_of_list (local_get 0 ∷ br 1 ∷ [])) ∷ []

-- counts the argument down to 0
abbrev pub counting : List Instruction
counting = loop None
    (code_of_list (local_get 0 ∷ const_i32 (2 ^ 32 - 1) ∷ numeric (number.I32 Add) ∷ local_tee 0 ∷ br_if 0 ∷ []))
    ∷ local_get 0 ∷ []

-- 10, 20, and 30 for whatever is past the labels
abbrev pub choosing : List Instruction
choosing =
    block None (code_of_list
    (block None
    (code_of_list (block None (code_of_list (local_get 0 ∷ br_table (0 ∷ 1 ∷ []) 2 ∷ [])) ∷ const_i32 10 ∷ give_back
    ∷ [])) ∷ const_i32 20 ∷ give_back ∷ []))
    ∷ const_i32 30 ∷ []

-- 1 where the argument isn't 0, else 2
abbrev pub by_cond : List Instruction
by_cond = local_get 0 ∷ cond (Some type.I32) (code_of_list (const_i32 1 ∷ [])) (code_of_list (const_i32 2 ∷ [])) ∷ []

abbrev pub by_select : List Instruction
by_select = const_i32 1 ∷ const_i32 2 ∷ local_get 0 ∷ select ∷ []

-- calls itself for ever
abbrev pub recursive : List Instruction
recursive = local_get 0 ∷ call 0 ∷ []

pub record ControlRows : Type 0 where
  pub branch_drops : AnswersFree dropping 0 2
  pub branch_out_of_two : AnswersFree out_of_two 0 5
  pub return_drops : AnswersFree returning 7 7
  pub branch_past_all : AnswersFree past_all 7 7
  pub four_turns : (n : ℕ) → Answers counting 5 (suc (suc (suc (suc n)))) 0 n
  pub three_units : Spent counting 5 3
  pub first_label : AnswersFree choosing 0 10
  pub second_label : AnswersFree choosing 1 20
  pub default_label : AnswersFree choosing 2 30
  pub far_past : AnswersFree choosing (2 ^ 32 - 1) 30
  pub cond_zero : AnswersFree by_cond 0 2
  pub cond_other : AnswersFree by_cond 3 1
  pub select_zero : AnswersFree by_select 0 2
  pub select_other : AnswersFree by_select 3 1
  pub calls_spend : Spent recursive 0 9

-- on the instance of the module
abbrev pub AnswersThere : List Instruction → ℕ → Type 0
AnswersThere is answer = IsOkAnd (instantiated (of_one_function is)) λ st. (n : ℕ) → (after : Store)
    × (invoked (of_one_function is) st 0 (I32 0 ∷ []) n ≡ ended after (I32 answer ∷ []) n)

-- one page more, and the old size; then no more, and -1
abbrev pub grows : List Instruction
grows = const_i32 1 ∷ memory_grow ∷ []

abbrev pub grows_twice : List Instruction
grows_twice = const_i32 1 ∷ memory_grow ∷ drop_value ∷ const_i32 1 ∷ memory_grow ∷ []

abbrev pub size_after : List Instruction
size_after = const_i32 1 ∷ memory_grow ∷ drop_value ∷ memory_size ∷ []

-- the lowest byte stands first
abbrev pub second_byte : List Instruction
second_byte = const_i32 8 ∷ const_i64 0x1122 ∷ store store_op.I64 3 0 ∷ const_i32 0 ∷ load load_op.I32U8 0 9 ∷ []

-- a narrow load extends the sign, and a narrow store drops what is above
abbrev pub signed_byte : List Instruction
signed_byte = const_i32 3 ∷ const_i32 0x1FF ∷ store store_op.I32To8 0 0 ∷ const_i32 0 ∷ load load_op.I32S8 0 3 ∷ []

abbrev pub unsigned_half : List Instruction
unsigned_half = const_i32 3 ∷ const_i32 0x1FF ∷ store store_op.I32To8 0 0 ∷ const_i32 0 ∷ load load_op.I32U16 1 3 ∷ []

-- the last byte of the memory
abbrev pub last_byte : List Instruction
last_byte = const_i32 65535 ∷ const_i32 9 ∷ store store_op.I32To8 0 0 ∷ const_i32 65532 ∷ load load_op.I32 2 0 ∷ []

pub record MemoryRows : Type 0 where
  pub first_growth : AnswersThere grows 1
  pub second_growth : AnswersThere grows_twice (2 ^ 32 - 1)
  pub size : AnswersThere size_after 2
  pub little_endian : AnswersThere second_byte 0x11
  pub sign : AnswersThere signed_byte (2 ^ 32 - 1)
  pub no_sign : AnswersThere unsigned_half 0xFF
  pub at_the_end : AnswersThere last_byte (9 * 2 ^ 24)

-- an indirect call of the table's element i, at type 0 and at type 1
abbrev pub indirectly : ℕ → List Instruction
indirectly i = local_get 0 ∷ const_i32 i ∷ call_indirect 0 ∷ []

abbrev pub at_another_type : List Instruction
at_another_type = const_i32 0 ∷ call_indirect 1 ∷ const_i32 0 ∷ []

abbrev pub EndsThere : List Instruction → (Store → End) → Type 0
EndsThere is how = IsOkAnd (instantiated (of_one_function is)) λ st. invoked (of_one_function is) st 0 (I32 0 ∷ []) 0
    ≡ how st

-- traps are tested before units are
pub record IndirectRows : Type 0 where
  pub undefined : EndsThere (indirectly 2) (λ st. trapped UndefinedElement st)
  pub wrong_type : EndsThere at_another_type (λ st. trapped WrongType st)
  pub defined : EndsThere (indirectly 0) (λ st. spent)

-- one table of two elements, and one page
abbrev pub of_segments : List ElementSegment → List DataSegment → PureModule
of_segments es ss = record (of_one_function recursive) { elements = es; segments = ss }

abbrev pub element_at : ℕ → List ℕ → ElementSegment
element_at offset fs = record { offset = code_of_list (const_i32 offset ∷ []); funcs = fs }

abbrev pub segment_at : ℕ → List ℕ → DataSegment
segment_at offset bytes = record { offset = code_of_list (const_i32 offset ∷ []); bytes = bytes }

pub record SegmentRows : Type 0 where
  pub empty_at_the_end : IsOkAnd (instantiated (of_segments (element_at 2 [] ∷ []) (segment_at 65536 [] ∷ [])))
      (λ st. (st.table ≡ None ∷ None ∷ []) × (st.memory.pages ≡ 1))
  pub element_past : instantiated (of_segments (element_at 0 [] ∷ element_at 3 [] ∷ []) []) ≡ Err (element 1)
  pub segment_past : instantiated (of_segments [] (segment_at 65537 [] ∷ [])) ≡ Err (segment 0)
  pub no_wrapping : instantiated (of_segments [] (segment_at (2 ^ 32 - 1) (5 ∷ []) ∷ [])) ≡ Err (segment 0)
  pub elements_first : instantiated (of_segments (element_at 2 (0 ∷ []) ∷ []) (segment_at 65537 [] ∷ []))
      ≡ Err (element 0)
  pub later_over_earlier : IsOkAnd
      (instantiated (of_segments (element_at 0 (0 ∷ 0 ∷ []) ∷ element_at 1 (7 ∷ []) ∷ []) []))
      (λ st. st.table ≡ Some 0 ∷ Some 7 ∷ [])
  pub later_bytes : IsOkAnd (instantiated (of_segments [] (segment_at 10 (1 ∷ 2 ∷ []) ∷ segment_at 11 (3 ∷ []) ∷ [])))
      (λ st. (st.memory.byte_at 10 ≡ 1) × (st.memory.byte_at 11 ≡ 3) × (st.memory.byte_at 12 ≡ 0))
