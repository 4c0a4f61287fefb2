-- How instructions are spelled (standard: Binary Format, Instructions).
use Rattle.std.specs.Prelude.{◌≡◌, ℕ, ◌+◌, List, Option, Some, None}
use Rattle.mw_wasm.specs.declared.values.ValType.{ValType}
use Rattle.mw_wasm.specs.declared.values.ValType.TheVariants as value
use Rattle.mw_wasm.specs.declared.numbers.IntOp.{IntOp}
use Rattle.mw_wasm.specs.declared.numbers.IntOp.TheVariants as op
use Rattle.mw_wasm.specs.declared.numbers.NumOp.{NumOp}
use Rattle.mw_wasm.specs.declared.numbers.NumOp.TheVariants as number
use Rattle.mw_wasm.specs.declared.numbers.LoadOp.{LoadOp}
use Rattle.mw_wasm.specs.declared.numbers.LoadOp.TheVariants as load_op
use Rattle.mw_wasm.specs.declared.numbers.StoreOp.{StoreOp}
use Rattle.mw_wasm.specs.declared.numbers.StoreOp.TheVariants as store_op
use Rattle.mw_wasm.specs.Syntax.{Instruction, Code, unreachable, nop, block, loop, cond, br, br_if, br_table, give_back}
use Rattle.mw_wasm.specs.Syntax.{call, call_indirect, drop_value, select, local_get, local_set, local_tee, global_get}
use Rattle.mw_wasm.specs.Syntax.{global_set, load, store, memory_size, memory_grow, const_i32, const_i64, numeric, end}
use Rattle.mw_wasm.specs.Syntax.{next}
use Rattle.mw_wasm.specs.Pieces.{Piece, nothing, byte, ◌then◌, ◌or◌, ◌when◌, u32, i32, i64, vector}

-- value types (standard: Binary Format, Types, Value Types)
abbrev pub value_type : ValType → Piece
value_type value.I32 = byte 0x7F
value_type value.I64 = byte 0x7E

-- the result of a block (standard: Binary Format, Types, Result Types)
abbrev pub block_type : Option ValType → Piece
block_type None = byte 0x40
block_type (Some t) = value_type t

-- the opcodes of loads and stores (standard: Binary Format, Instructions, Memory Instructions)
abbrev pub load_opcode : LoadOp → ℕ
load_opcode load_op.I32 = 0x28
load_opcode load_op.I64 = 0x29
load_opcode load_op.I32S8 = 0x2C
load_opcode load_op.I32U8 = 0x2D
load_opcode load_op.I32S16 = 0x2E
load_opcode load_op.I32U16 = 0x2F
load_opcode load_op.I64S8 = 0x30
load_opcode load_op.I64U8 = 0x31
load_opcode load_op.I64S16 = 0x32
load_opcode load_op.I64U16 = 0x33
load_opcode load_op.I64S32 = 0x34
load_opcode load_op.I64U32 = 0x35

abbrev pub store_opcode : StoreOp → ℕ
store_opcode store_op.I32 = 0x36
store_opcode store_op.I64 = 0x37
store_opcode store_op.I32To8 = 0x3A
store_opcode store_op.I32To16 = 0x3B
store_opcode store_op.I64To8 = 0x3C
store_opcode store_op.I64To16 = 0x3D
store_opcode store_op.I64To32 = 0x3E

-- The opcodes of one width's operations: the tests and comparisons stand together, and so do all others.
abbrev pub int_opcode : (tests others : ℕ) → IntOp → ℕ
int_opcode tests others op.Eqz = tests
int_opcode tests others op.Eq = tests + 1
int_opcode tests others op.Ne = tests + 2
int_opcode tests others op.LtS = tests + 3
int_opcode tests others op.LtU = tests + 4
int_opcode tests others op.GtS = tests + 5
int_opcode tests others op.GtU = tests + 6
int_opcode tests others op.LeS = tests + 7
int_opcode tests others op.LeU = tests + 8
int_opcode tests others op.GeS = tests + 9
int_opcode tests others op.GeU = tests + 10
int_opcode tests others op.Clz = others
int_opcode tests others op.Ctz = others + 1
int_opcode tests others op.Popcnt = others + 2
int_opcode tests others op.Add = others + 3
int_opcode tests others op.Sub = others + 4
int_opcode tests others op.Mul = others + 5
int_opcode tests others op.DivS = others + 6
int_opcode tests others op.DivU = others + 7
int_opcode tests others op.RemS = others + 8
int_opcode tests others op.RemU = others + 9
int_opcode tests others op.And = others + 10
int_opcode tests others op.Or = others + 11
int_opcode tests others op.Xor = others + 12
int_opcode tests others op.Shl = others + 13
int_opcode tests others op.ShrS = others + 14
int_opcode tests others op.ShrU = others + 15
int_opcode tests others op.Rotl = others + 16
int_opcode tests others op.Rotr = others + 17

-- the opcodes of numeric instructions (standard: Binary Format, Instructions, Numeric Instructions)
abbrev pub opcode_of_number : NumOp → ℕ
opcode_of_number (number.I32 o) = int_opcode 0x45 0x67 o
opcode_of_number (number.I64 o) = int_opcode 0x50 0x79 o
opcode_of_number number.Wrap = 0xA7
opcode_of_number number.ExtendS = 0xAC
opcode_of_number number.ExtendU = 0xAD

abbrev mutual
  -- an instruction: its opcode, and its immediates
  pub instruction : Instruction → Piece
  instruction unreachable = byte 0x00
  instruction nop = byte 0x01
  instruction (block t body) = byte 0x02 then block_type t then code body then byte 0x0B
  instruction (loop t body) = byte 0x03 then block_type t then code body then byte 0x0B
  instruction (cond t a b) = byte 0x04 then block_type t then code a then
      (byte 0x0B when (b ≡ end) or byte 0x05 then code b then byte 0x0B)
  instruction (br l) = byte 0x0C then u32 l
  instruction (br_if l) = byte 0x0D then u32 l
  instruction (br_table ls l) = byte 0x0E then vector u32 ls then u32 l
  instruction give_back = byte 0x0F
  instruction (call f) = byte 0x10 then u32 f
  instruction (call_indirect t) = byte 0x11 then u32 t then byte 0x00
  instruction drop_value = byte 0x1A
  instruction select = byte 0x1B
  instruction (local_get x) = byte 0x20 then u32 x
  instruction (local_set x) = byte 0x21 then u32 x
  instruction (local_tee x) = byte 0x22 then u32 x
  instruction (global_get x) = byte 0x23 then u32 x
  instruction (global_set x) = byte 0x24 then u32 x
  instruction (load o align offset) = byte (load_opcode o) then u32 align then u32 offset
  instruction (store o align offset) = byte (store_opcode o) then u32 align then u32 offset
  instruction memory_size = byte 0x3F then byte 0x00
  instruction memory_grow = byte 0x40 then byte 0x00
  instruction (const_i32 n) = byte 0x41 then i32 n
  instruction (const_i64 n) = byte 0x42 then i64 n
  instruction (numeric o) = byte (opcode_of_number o)

  -- instructions in order
  pub code : Code → Piece
  code end = nothing
  code (next i c) = instruction i then code c

-- instructions and the byte that ends them (standard: Binary Format, Instructions, Expressions)
abbrev pub expression : Code → Piece
expression c = code c then byte 0x0B

abbrev pub SpellsInstruction : List ℕ → Instruction → Type 0
SpellsInstruction bytes i = instruction i bytes

abbrev pub SpellsCode : List ℕ → Code → Type 0
SpellsCode bytes c = code c bytes

abbrev pub SpellsExpression : List ℕ → Code → Type 0
SpellsExpression bytes c = expression c bytes
