-- Each opcode spelled (standard: Binary Format, Instructions; Appendix, Index of Instructions). That bytes spell no
-- second instruction is a law of its own.
use Rattle.std.specs.Prelude.{ℕ, ◌-◌, ◌^◌, List, [], ◌∷◌, Some, None}
use Rattle.std.specs.List.{AllByRecursion}
use Rattle.mw_wasm.specs.declared.values.ValType.TheVariants.{I32, I64}
use Rattle.mw_wasm.specs.declared.numbers.NumOp.{NumOp}
use Rattle.mw_wasm.specs.declared.numbers.NumOp.TheVariants as number
use Rattle.mw_wasm.specs.declared.numbers.IntOp.TheVariants as op
use Rattle.mw_wasm.specs.declared.numbers.LoadOp.{LoadOp}
use Rattle.mw_wasm.specs.declared.numbers.LoadOp.TheVariants as load_op
use Rattle.mw_wasm.specs.declared.numbers.StoreOp.{StoreOp}
use Rattle.mw_wasm.specs.declared.numbers.StoreOp.TheVariants as store_op
use Rattle.mw_wasm.specs.Syntax.{unreachable, nop, block, loop, cond, br, br_if, br_table, give_back, call}
use Rattle.mw_wasm.specs.Syntax.{call_indirect, drop_value, select, local_get, local_set, local_tee, global_get}
use Rattle.mw_wasm.specs.Syntax.{global_set, load, store, memory_size, memory_grow, const_i32, const_i64, numeric, end}
use Rattle.mw_wasm.specs.Syntax.{next}
use Rattle.mw_wasm.specs.BinaryInstructions.{SpellsInstruction}

pub record InstructionRows : Type 0 where
  pub unreachable_00 : SpellsInstruction (0x00 ∷ []) unreachable
  pub nop_01 : SpellsInstruction (0x01 ∷ []) nop
  pub block_02 : SpellsInstruction (0x02 ∷ 0x40 ∷ 0x01 ∷ 0x0B ∷ []) (block None (next nop end))
  pub block_of_i32 : SpellsInstruction (0x02 ∷ 0x7F ∷ 0x41 ∷ 0x07 ∷ 0x0B ∷ [])
      (block (Some I32) (next (const_i32 7) end))
  pub block_of_i64 : SpellsInstruction (0x02 ∷ 0x7E ∷ 0x42 ∷ 0x07 ∷ 0x0B ∷ [])
      (block (Some I64) (next (const_i64 7) end))
  pub loop_03 : SpellsInstruction (0x03 ∷ 0x40 ∷ 0x01 ∷ 0x0B ∷ []) (loop None (next nop end))
  pub if_04 : SpellsInstruction (0x04 ∷ 0x40 ∷ 0x01 ∷ 0x0B ∷ []) (cond None (next nop end) end)
  pub else_05 : SpellsInstruction (0x04 ∷ 0x40 ∷ 0x01 ∷ 0x05 ∷ 0x00 ∷ 0x0B ∷ [])
      (cond None (next nop end) (next unreachable end))
  pub br_0C : SpellsInstruction (0x0C ∷ 0x05 ∷ []) (br 5)
  pub br_if_0D : SpellsInstruction (0x0D ∷ 0x05 ∷ []) (br_if 5)
  pub br_table_0E : SpellsInstruction (0x0E ∷ 0x02 ∷ 0x05 ∷ 0x06 ∷ 0x07 ∷ []) (br_table (5 ∷ 6 ∷ []) 7)
  pub return_0F : SpellsInstruction (0x0F ∷ []) give_back
  pub call_10 : SpellsInstruction (0x10 ∷ 0x05 ∷ []) (call 5)
  pub call_indirect_11 : SpellsInstruction (0x11 ∷ 0x05 ∷ 0x00 ∷ []) (call_indirect 5)
  pub drop_1A : SpellsInstruction (0x1A ∷ []) drop_value
  pub select_1B : SpellsInstruction (0x1B ∷ []) select
  pub local_get_20 : SpellsInstruction (0x20 ∷ 0x05 ∷ []) (local_get 5)
  pub local_set_21 : SpellsInstruction (0x21 ∷ 0x05 ∷ []) (local_set 5)
  pub local_tee_22 : SpellsInstruction (0x22 ∷ 0x05 ∷ []) (local_tee 5)
  pub global_get_23 : SpellsInstruction (0x23 ∷ 0x05 ∷ []) (global_get 5)
  pub global_set_24 : SpellsInstruction (0x24 ∷ 0x05 ∷ []) (global_set 5)
  pub memory_size_3F : SpellsInstruction (0x3F ∷ 0x00 ∷ []) memory_size
  pub memory_grow_40 : SpellsInstruction (0x40 ∷ 0x00 ∷ []) memory_grow
  pub const_i32_41 : SpellsInstruction (0x41 ∷ 0x05 ∷ []) (const_i32 5)
  pub const_i64_42 : SpellsInstruction (0x42 ∷ 0x05 ∷ []) (const_i64 5)
  pub minus_one_i32 : SpellsInstruction (0x41 ∷ 0x7F ∷ []) (const_i32 (2 ^ 32 - 1))
  pub minus_one_i64 : SpellsInstruction (0x42 ∷ 0x7F ∷ []) (const_i64 (2 ^ 64 - 1))
  pub two_bytes : SpellsInstruction (0x20 ∷ 0xAC ∷ 0x02 ∷ []) (local_get 300)

-- loads and stores, with the alignment 1 and the offset 2
abbrev pub load_opcodes : List (ℕ × LoadOp)
load_opcodes =
    (0x28, load_op.I32) ∷ (0x29, load_op.I64) ∷ (0x2C, load_op.I32S8) ∷ (0x2D, load_op.I32U8) ∷ (0x2E, load_op.I32S16)
    ∷ (0x2F, load_op.I32U16)
    ∷ (0x30, load_op.I64S8) ∷ (0x31, load_op.I64U8) ∷ (0x32, load_op.I64S16) ∷ (0x33, load_op.I64U16)
    ∷ (0x34, load_op.I64S32) ∷ (0x35, load_op.I64U32) ∷ []

abbrev pub store_opcodes : List (ℕ × StoreOp)
store_opcodes =
    (0x36, store_op.I32) ∷ (0x37, store_op.I64) ∷ (0x3A, store_op.I32To8) ∷ (0x3B, store_op.I32To16)
    ∷ (0x3C, store_op.I64To8) ∷ (0x3D, store_op.I64To16)
    ∷ (0x3E, store_op.I64To32) ∷ []

-- the numeric instructions
abbrev pub opcodes_32 : List (ℕ × NumOp)
opcodes_32 =
    (0x45, number.I32 op.Eqz) ∷ (0x46, number.I32 op.Eq) ∷ (0x47, number.I32 op.Ne) ∷ (0x48, number.I32 op.LtS)
    ∷ (0x49, number.I32 op.LtU)
    ∷ (0x4A, number.I32 op.GtS) ∷ (0x4B, number.I32 op.GtU) ∷ (0x4C, number.I32 op.LeS) ∷ (0x4D, number.I32 op.LeU)
    ∷ (0x4E, number.I32 op.GeS)
    ∷ (0x4F, number.I32 op.GeU) ∷ (0x67, number.I32 op.Clz) ∷ (0x68, number.I32 op.Ctz) ∷ (0x69, number.I32 op.Popcnt)
    ∷ (0x6A, number.I32 op.Add)
    ∷ (0x6B, number.I32 op.Sub) ∷ (0x6C, number.I32 op.Mul) ∷ (0x6D, number.I32 op.DivS) ∷ (0x6E, number.I32 op.DivU)
    ∷ (0x6F, number.I32 op.RemS)
    ∷ (0x70, number.I32 op.RemU) ∷ (0x71, number.I32 op.And) ∷ (0x72, number.I32 op.Or) ∷ (0x73, number.I32 op.Xor)
    ∷ (0x74, number.I32 op.Shl)
    ∷ (0x75, number.I32 op.ShrS) ∷ (0x76, number.I32 op.ShrU) ∷ (0x77, number.I32 op.Rotl) ∷ (0x78, number.I32 op.Rotr)
    ∷ []

abbrev pub opcodes_64 : List (ℕ × NumOp)
opcodes_64 =
    (0x50, number.I64 op.Eqz) ∷ (0x51, number.I64 op.Eq) ∷ (0x52, number.I64 op.Ne) ∷ (0x53, number.I64 op.LtS)
    ∷ (0x54, number.I64 op.LtU)
    ∷ (0x55, number.I64 op.GtS) ∷ (0x56, number.I64 op.GtU) ∷ (0x57, number.I64 op.LeS) ∷ (0x58, number.I64 op.LeU)
    ∷ (0x59, number.I64 op.GeS)
    ∷ (0x5A, number.I64 op.GeU) ∷ (0x79, number.I64 op.Clz) ∷ (0x7A, number.I64 op.Ctz) ∷ (0x7B, number.I64 op.Popcnt)
    ∷ (0x7C, number.I64 op.Add)
    ∷ (0x7D, number.I64 op.Sub) ∷ (0x7E, number.I64 op.Mul) ∷ (0x7F, number.I64 op.DivS) ∷ (0x80, number.I64 op.DivU)
    ∷ (0x81, number.I64 op.RemS)
    ∷ (0x82, number.I64 op.RemU) ∷ (0x83, number.I64 op.And) ∷ (0x84, number.I64 op.Or) ∷ (0x85, number.I64 op.Xor)
    ∷ (0x86, number.I64 op.Shl)
    ∷ (0x87, number.I64 op.ShrS) ∷ (0x88, number.I64 op.ShrU) ∷ (0x89, number.I64 op.Rotl) ∷ (0x8A, number.I64 op.Rotr)
    ∷ []

abbrev pub conversion_opcodes : List (ℕ × NumOp)
conversion_opcodes = (0xA7, number.Wrap) ∷ (0xAC, number.ExtendS) ∷ (0xAD, number.ExtendU) ∷ []

abbrev pub NumbersAreSpelled : List (ℕ × NumOp) → Type 0
NumbersAreSpelled rows = AllByRecursion (λ (row : ℕ × NumOp). SpellsInstruction (row.0 ∷ []) (numeric row.1)) rows

pub record OpcodeRows : Type 0 where
  pub loads : AllByRecursion (λ (row : ℕ × LoadOp). SpellsInstruction (row.0 ∷ 1 ∷ 2 ∷ []) (load row.1 1 2))
      load_opcodes
  pub stores : AllByRecursion (λ (row : ℕ × StoreOp). SpellsInstruction (row.0 ∷ 1 ∷ 2 ∷ []) (store row.1 1 2))
      store_opcodes
  pub at_32 : NumbersAreSpelled opcodes_32
  pub at_64 : NumbersAreSpelled opcodes_64
  pub conversions : NumbersAreSpelled conversion_opcodes
