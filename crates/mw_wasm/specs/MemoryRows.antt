-- Every load and store inside the memory, at its end and past it, and growth. The answers of loads and stores are those
-- of an engine of the standard; those of growth follow from the limit of 1,024 pages.
use Rattle.std.specs.Prelude.{◌≡◌, ℕ, ◌-◌, ◌^◌, List, [], ◌∷◌, ◌++◌, map, Option, Some, None}
use Rattle.mw_wasm.specs.declared.values.Value.{Value}
use Rattle.mw_wasm.specs.declared.values.Value.TheVariants as value
use Rattle.mw_wasm.specs.declared.values.ValType.{ValType}
use Rattle.mw_wasm.specs.declared.values.ValType.TheVariants.{I32}
use Rattle.mw_wasm.specs.declared.values.Trap.TheVariants.{OutOfBounds}
use Rattle.mw_wasm.specs.declared.numbers.LoadOp.{LoadOp}
use Rattle.mw_wasm.specs.declared.numbers.LoadOp.TheVariants as load_op
use Rattle.mw_wasm.specs.declared.numbers.StoreOp.{StoreOp}
use Rattle.mw_wasm.specs.declared.numbers.StoreOp.TheVariants as store_op
use Rattle.mw_wasm.specs.NumericTypes.{type_of_value}
use Rattle.mw_wasm.specs.Validity.{load_type}
use Rattle.mw_wasm.specs.Syntax.{Instruction, local_get, load, store, drop_value, memory_grow, const_i32, DataSegment}
use Rattle.mw_wasm.specs.Syntax.{PureModule}
use Rattle.mw_wasm.specs.Execution as ends
use Rattle.mw_wasm.specs.Execution.{End}
use Rattle.mw_wasm.specs.Instances.{instantiated}
use Rattle.mw_wasm.specs.ControlExamples.{segment_at}
use Rattle.mw_wasm.specs.Outcomes.{Outcome, gave, trapped, outcome_of, end_of, outcomes, i32, i64, function_alone}

-- bytes from 4 on, and the last eight bytes of a page
abbrev pub bytes_inside : List DataSegment
bytes_inside =
    segment_at 4 (0x80 ∷ 0x7F ∷ 0xFF ∷ 0x7F ∷ 0 ∷ 0x80 ∷ 0xFF ∷ 0xFF ∷ 0xFF ∷ 0x7F ∷ 0 ∷ 0 ∷ 0 ∷ 0x80 ∷ 1 ∷ 2 ∷ 3 ∷ 4
    ∷ [])
    ∷ segment_at 65528 (1 ∷ 2 ∷ 3 ∷ 4 ∷ 5 ∷ 6 ∷ 7 ∷ 0x88 ∷ []) ∷ []

-- a function beside a memory of so many pages
abbrev pub beside_memory : ℕ → Option ℕ → List ValType → List ValType → List Instruction → PureModule
beside_memory min max params results is = record (function_alone params results [] is)
    { memory = Some record { min = min; max = max }; segments = bytes_inside }

-- loads of k bytes with the offset 3, from 4, 5, 6, 8, 10 and 14, at the end, one past it, and from an address that
-- mustn't wrap
abbrev pub loads : LoadOp → ℕ → List Outcome
loads o k = outcomes (beside_memory 1 (Some 2) (I32 ∷ []) (load_type o ∷ []) (local_get 0 ∷ load o 0 3 ∷ []))
    (map (λ a. value.I32 a ∷ []) (1 ∷ 2 ∷ 3 ∷ 5 ∷ 7 ∷ 11 ∷ (65533 - k) ∷ (65534 - k) ∷ (2 ^ 32 - 1) ∷ []))

abbrev pub past : List Outcome
past = trapped OutOfBounds ∷ trapped OutOfBounds ∷ []

pub record LoadRows : Type 0 where
  pub i32_load : loads load_op.I32 4
      ≡ map i32 (0x7FFF7F80 ∷ 0x7FFF7F ∷ 0x80007FFF ∷ 0xFFFF8000 ∷ 0x7FFFFFFF ∷ 0x80000000 ∷ 0x88070605 ∷ []) ++ past
  pub i64_load : loads load_op.I64 8
      ≡ map i64 (0xFFFF80007FFF7F80 ∷ 0xFFFFFF80007FFF7F ∷ 0x7FFFFFFF80007FFF ∷ 0x7FFFFFFF8000 ∷ 0x800000007FFFFFFF
      ∷ 0x403020180000000 ∷ 0x8807060504030201 ∷ []) ++ past
  pub i32_load8_s : loads load_op.I32S8 1
      ≡ map i32 (0xFFFFFF80 ∷ 0x7F ∷ 0xFFFFFFFF ∷ 0 ∷ 0xFFFFFFFF ∷ 0 ∷ 0xFFFFFF88 ∷ []) ++ past
  pub i32_load8_u : loads load_op.I32U8 1 ≡ map i32 (0x80 ∷ 0x7F ∷ 0xFF ∷ 0 ∷ 0xFF ∷ 0 ∷ 0x88 ∷ []) ++ past
  pub i32_load16_s : loads load_op.I32S16 2
      ≡ map i32 (0x7F80 ∷ 0xFFFFFF7F ∷ 0x7FFF ∷ 0xFFFF8000 ∷ 0xFFFFFFFF ∷ 0 ∷ 0xFFFF8807 ∷ []) ++ past
  pub i32_load16_u : loads load_op.I32U16 2 ≡ map i32 (0x7F80 ∷ 0xFF7F ∷ 0x7FFF ∷ 0x8000 ∷ 0xFFFF ∷ 0 ∷ 0x8807 ∷ [])
      ++ past
  pub i64_load8_s : loads load_op.I64S8 1
      ≡ map i64 (0xFFFFFFFFFFFFFF80 ∷ 0x7F ∷ 0xFFFFFFFFFFFFFFFF ∷ 0 ∷ 0xFFFFFFFFFFFFFFFF ∷ 0 ∷ 0xFFFFFFFFFFFFFF88 ∷ [])
      ++ past
  pub i64_load8_u : loads load_op.I64U8 1 ≡ map i64 (0x80 ∷ 0x7F ∷ 0xFF ∷ 0 ∷ 0xFF ∷ 0 ∷ 0x88 ∷ []) ++ past
  pub i64_load16_s : loads load_op.I64S16 2
      ≡ map i64 (0x7F80 ∷ 0xFFFFFFFFFFFFFF7F ∷ 0x7FFF ∷ 0xFFFFFFFFFFFF8000 ∷ 0xFFFFFFFFFFFFFFFF ∷ 0 ∷ 0xFFFFFFFFFFFF8807
      ∷ []) ++ past
  pub i64_load16_u : loads load_op.I64U16 2 ≡ map i64 (0x7F80 ∷ 0xFF7F ∷ 0x7FFF ∷ 0x8000 ∷ 0xFFFF ∷ 0 ∷ 0x8807 ∷ [])
      ++ past
  pub i64_load32_s : loads load_op.I64S32 4
      ≡ map i64 (0x7FFF7F80 ∷ 0x7FFF7F ∷ 0xFFFFFFFF80007FFF ∷ 0xFFFFFFFFFFFF8000 ∷ 0x7FFFFFFF ∷ 0xFFFFFFFF80000000
      ∷ 0xFFFFFFFF88070605 ∷ []) ++ past
  pub i64_load32_u : loads load_op.I64U32 4
      ≡ map i64 (0x7FFF7F80 ∷ 0x7FFF7F ∷ 0x80007FFF ∷ 0xFFFF8000 ∷ 0x7FFFFFFF ∷ 0x80000000 ∷ 0x88070605 ∷ []) ++ past

-- the bytes at these addresses after an invocation that ended or trapped
abbrev pub bytes_after : End → List ℕ → List ℕ
bytes_after (ends.ended st vs left) addresses = map (λ a. st.memory.byte_at a) addresses
bytes_after (ends.trapped t st) addresses = map (λ a. st.memory.byte_at a) addresses
bytes_after ends.spent addresses = []
bytes_after ends.lost addresses = []

abbrev pub seen_after : End → List ℕ → Outcome × List ℕ
seen_after e addresses = (outcome_of e, bytes_after e addresses)

-- a store of this value at an address, with the offset 3
abbrev pub stored : StoreOp → Value → ℕ → List ℕ → Outcome × List ℕ
stored o v a addresses =
    let m = beside_memory 1 (Some 2) (I32 ∷ type_of_value v ∷ []) [] (local_get 0 ∷ local_get 1 ∷ store o 0 3 ∷ []) in
    seen_after (end_of (instantiated m) m (value.I32 a ∷ v ∷ []) 0) addresses

abbrev pub near_four : List ℕ
near_four = 3 ∷ 4 ∷ 5 ∷ 6 ∷ 7 ∷ 8 ∷ 9 ∷ 10 ∷ 11 ∷ 12 ∷ []

abbrev pub last_nine : List ℕ
last_nine = 65527 ∷ 65528 ∷ 65529 ∷ 65530 ∷ 65531 ∷ 65532 ∷ 65533 ∷ 65534 ∷ 65535 ∷ []

-- stores of k bytes from 4, at the end, one past it, and from an address that mustn't wrap
abbrev pub stores : StoreOp → Value → ℕ → List (Outcome × List ℕ)
stores o v k = stored o v 1 near_four ∷ stored o v (65533 - k) last_nine ∷ stored o v (65534 - k) last_nine
    ∷ stored o v (2 ^ 32 - 1) last_nine ∷ []

abbrev pub done : Outcome
done = gave [] 0

-- traps, and nothing written
abbrev pub unwritten : List (Outcome × List ℕ)
unwritten = (trapped OutOfBounds, 0 ∷ 1 ∷ 2 ∷ 3 ∷ 4 ∷ 5 ∷ 6 ∷ 7 ∷ 0x88 ∷ [])
    ∷ (trapped OutOfBounds, 0 ∷ 1 ∷ 2 ∷ 3 ∷ 4 ∷ 5 ∷ 6 ∷ 7 ∷ 0x88 ∷ []) ∷ []

pub record StoreRows : Type 0 where
  pub i32_store : stores store_op.I32 (value.I32 0xA4A3A2A1) 4
      ≡ (done, 0 ∷ 0xA1 ∷ 0xA2 ∷ 0xA3 ∷ 0xA4 ∷ 0 ∷ 0x80 ∷ 0xFF ∷ 0xFF ∷ 0xFF ∷ [])
      ∷ (done, 0 ∷ 1 ∷ 2 ∷ 3 ∷ 4 ∷ 0xA1 ∷ 0xA2 ∷ 0xA3 ∷ 0xA4 ∷ []) ∷ unwritten
  pub i64_store : stores store_op.I64 (value.I64 0xA8A7A6A5A4A3A2A1) 8
      ≡ (done, 0 ∷ 0xA1 ∷ 0xA2 ∷ 0xA3 ∷ 0xA4 ∷ 0xA5 ∷ 0xA6 ∷ 0xA7 ∷ 0xA8 ∷ 0xFF ∷ [])
      ∷ (done, 0 ∷ 0xA1 ∷ 0xA2 ∷ 0xA3 ∷ 0xA4 ∷ 0xA5 ∷ 0xA6 ∷ 0xA7 ∷ 0xA8 ∷ []) ∷ unwritten
  pub i32_store8 : stores store_op.I32To8 (value.I32 0xA4A3A2A1) 1
      ≡ (done, 0 ∷ 0xA1 ∷ 0x7F ∷ 0xFF ∷ 0x7F ∷ 0 ∷ 0x80 ∷ 0xFF ∷ 0xFF ∷ 0xFF ∷ [])
      ∷ (done, 0 ∷ 1 ∷ 2 ∷ 3 ∷ 4 ∷ 5 ∷ 6 ∷ 7 ∷ 0xA1 ∷ []) ∷ unwritten
  pub i32_store16 : stores store_op.I32To16 (value.I32 0xA4A3A2A1) 2
      ≡ (done, 0 ∷ 0xA1 ∷ 0xA2 ∷ 0xFF ∷ 0x7F ∷ 0 ∷ 0x80 ∷ 0xFF ∷ 0xFF ∷ 0xFF ∷ [])
      ∷ (done, 0 ∷ 1 ∷ 2 ∷ 3 ∷ 4 ∷ 5 ∷ 6 ∷ 0xA1 ∷ 0xA2 ∷ []) ∷ unwritten
  pub i64_store8 : stores store_op.I64To8 (value.I64 0xA8A7A6A5A4A3A2A1) 1
      ≡ (done, 0 ∷ 0xA1 ∷ 0x7F ∷ 0xFF ∷ 0x7F ∷ 0 ∷ 0x80 ∷ 0xFF ∷ 0xFF ∷ 0xFF ∷ [])
      ∷ (done, 0 ∷ 1 ∷ 2 ∷ 3 ∷ 4 ∷ 5 ∷ 6 ∷ 7 ∷ 0xA1 ∷ []) ∷ unwritten
  pub i64_store16 : stores store_op.I64To16 (value.I64 0xA8A7A6A5A4A3A2A1) 2
      ≡ (done, 0 ∷ 0xA1 ∷ 0xA2 ∷ 0xFF ∷ 0x7F ∷ 0 ∷ 0x80 ∷ 0xFF ∷ 0xFF ∷ 0xFF ∷ [])
      ∷ (done, 0 ∷ 1 ∷ 2 ∷ 3 ∷ 4 ∷ 5 ∷ 6 ∷ 0xA1 ∷ 0xA2 ∷ []) ∷ unwritten
  pub i64_store32 : stores store_op.I64To32 (value.I64 0xA8A7A6A5A4A3A2A1) 4
      ≡ (done, 0 ∷ 0xA1 ∷ 0xA2 ∷ 0xA3 ∷ 0xA4 ∷ 0 ∷ 0x80 ∷ 0xFF ∷ 0xFF ∷ 0xFF ∷ [])
      ∷ (done, 0 ∷ 1 ∷ 2 ∷ 3 ∷ 4 ∷ 0xA1 ∷ 0xA2 ∷ 0xA3 ∷ 0xA4 ∷ []) ∷ unwritten

-- growth of a memory of so many pages by each of these, each on a new instance
abbrev pub growths : ℕ → Option ℕ → List ℕ → List Outcome
growths min max by =
    outcomes (record (beside_memory min max (I32 ∷ []) (I32 ∷ []) (local_get 0 ∷ memory_grow ∷ [])) { segments = [] })
    (map (λ n. value.I32 n ∷ []) by)

-- after growth by one page: a byte of the first page, the first and the last of the second, and the one past it
abbrev pub grown_bytes : List Outcome
grown_bytes = outcomes
    (beside_memory 1 None (I32 ∷ []) (I32 ∷ [])
    (const_i32 1 ∷ memory_grow ∷ drop_value ∷ local_get 0 ∷ load load_op.I32U8 0 0 ∷ []))
    (map (λ a. value.I32 a ∷ []) (4 ∷ 65535 ∷ 65536 ∷ 131071 ∷ 131072 ∷ []))

pub record GrowthRows : Type 0 where
  pub no_maximum : growths 1 None (0 ∷ 1 ∷ 1023 ∷ 1024 ∷ (2 ^ 32 - 1) ∷ [])
      ≡ map i32 (1 ∷ 1 ∷ 1 ∷ (2 ^ 32 - 1) ∷ (2 ^ 32 - 1) ∷ [])
  pub maximum_of_2 : growths 1 (Some 2) (0 ∷ 1 ∷ 2 ∷ []) ≡ map i32 (1 ∷ 1 ∷ (2 ^ 32 - 1) ∷ [])
  pub maximum_of_1024 : growths 1 (Some 1024) (1023 ∷ 1024 ∷ []) ≡ map i32 (1 ∷ (2 ^ 32 - 1) ∷ [])
  pub maximum_of_2000 : growths 1 (Some 2000) (1023 ∷ 1024 ∷ []) ≡ map i32 (1 ∷ (2 ^ 32 - 1) ∷ [])
  pub no_pages : growths 0 (Some 0) (0 ∷ 1 ∷ []) ≡ map i32 (0 ∷ (2 ^ 32 - 1) ∷ [])
  pub old_and_new_bytes : grown_bytes ≡ map i32 (0x80 ∷ 0x88 ∷ 0 ∷ 0 ∷ []) ++ trapped OutOfBounds ∷ []
