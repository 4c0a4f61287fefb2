-- The canonical bytes of instructions.
use Rattle.std.proofs.Common.{◌≡◌, ℕ, ◌≤◌, List, [], ◌∷◌, ◌++◌, length, Option, Some, None, refl, arith}
use Rattle.mw_wasm.specs.declared.values.ValType.{ValType}
use Rattle.mw_wasm.specs.declared.values.ValType.TheVariants as value
use Rattle.mw_wasm.specs.Syntax.{Instruction, Code, unreachable, nop, block, loop, cond, br, br_if, br_table, give_back}
use Rattle.mw_wasm.specs.Syntax.{call, call_indirect, drop_value, select, local_get, local_set, local_tee, global_get}
use Rattle.mw_wasm.specs.Syntax.{global_set, load, store, memory_size, memory_grow, const_i32, const_i64, numeric, end}
use Rattle.mw_wasm.specs.Syntax.{next}
use Rattle.mw_wasm.specs.Pieces.{byte, ◌then◌, ◌or◌, ◌when◌, u32}
use Rattle.mw_wasm.specs.BinaryInstructions.{value_type, block_type, load_opcode, store_opcode, opcode_of_number}
use Rattle.mw_wasm.specs.BinaryInstructions.{instruction, code, expression}
use Rattle.mw_encode.specs.Encoding.{number, value_type_bytes, block_type_byte, instruction_bytes, code_bytes}
use Rattle.mw_encode.specs.Encoding.{else_bytes, expression_bytes}
use Rattle.mw_encode.proofs.Best.{Best, best_exactly, best_byte, best_then, best_u32, best_i32, best_i64, best_vector}
use Rattle.mw_encode.proofs.Best.{best_when, best_or_left, best_or_right}

pub best_value_type : (t : ValType) → Best (value_type t) (value_type_bytes t)
best_value_type value.I32 = best_byte 0x7F
best_value_type value.I64 = best_byte 0x7E

pub best_block_type : (t : Option ValType) → Best (block_type t) (block_type_byte t ∷ [])
best_block_type None = best_byte 0x40
best_block_type (Some t) = best_value_type t

indexed : (b n : ℕ) → Best (byte b then u32 n) (b ∷ number n)
indexed b n = best_then (best_byte b) (best_u32 n)

accessed : (b m n : ℕ) → Best (byte b then u32 m then u32 n) (b ∷ (number m ++ number n))
accessed b m n = best_then (best_byte b) (best_then (best_u32 m) (best_u32 n))

-- a piece after the byte 05 has a byte at least
behind_five : (P : List ℕ → Type 0) (other : List ℕ) → (byte 0x05 then P) other → 1 ≤ length other
behind_five P other p = rw (p.whole, p.first) (omega arith)

mutual
  pub best_instruction : (i : Instruction) → Best (instruction i) (instruction_bytes i)
  best_instruction unreachable = best_byte 0x00
  best_instruction nop = best_byte 0x01
  best_instruction (block t body) =
      best_then (best_byte 0x02) (best_then (best_block_type t) (best_then (best_code body) (best_byte 0x0B)))
  best_instruction (loop t body) =
      best_then (best_byte 0x03) (best_then (best_block_type t) (best_then (best_code body) (best_byte 0x0B)))
  best_instruction (cond t a b) =
      best_then (best_byte 0x04) (best_then (best_block_type t) (best_then (best_code a) (best_else b)))
  best_instruction (br l) = indexed 0x0C l
  best_instruction (br_if l) = indexed 0x0D l
  best_instruction (br_table ls l) =
      best_then (best_byte 0x0E) (best_then (best_vector u32 number best_u32 ls) (best_u32 l))
  best_instruction give_back = best_byte 0x0F
  best_instruction (call f) = indexed 0x10 f
  best_instruction (call_indirect t) = best_then (best_byte 0x11) (best_then (best_u32 t) (best_byte 0x00))
  best_instruction drop_value = best_byte 0x1A
  best_instruction select = best_byte 0x1B
  best_instruction (local_get x) = indexed 0x20 x
  best_instruction (local_set x) = indexed 0x21 x
  best_instruction (local_tee x) = indexed 0x22 x
  best_instruction (global_get x) = indexed 0x23 x
  best_instruction (global_set x) = indexed 0x24 x
  best_instruction (load o align offset) = accessed (load_opcode o) align offset
  best_instruction (store o align offset) = accessed (store_opcode o) align offset
  best_instruction memory_size = best_then (best_byte 0x3F) (best_byte 0x00)
  best_instruction memory_grow = best_then (best_byte 0x40) (best_byte 0x00)
  best_instruction (const_i32 n) = best_then (best_byte 0x41) (best_i32 n)
  best_instruction (const_i64 n) = best_then (best_byte 0x42) (best_i64 n)
  best_instruction (numeric o) = best_byte (opcode_of_number o)

  pub best_code : (c : Code) → Best (code c) (code_bytes c)
  best_code end = best_exactly []
  best_code (next i c) = best_then (best_instruction i) (best_code c)

  best_else : (c : Code) → Best (byte 0x0B when (c ≡ end) or byte 0x05 then code c then byte 0x0B) (else_bytes c)
  best_else end = best_or_left (best_when (best_byte 0x0B)) (refl, refl) (λ other p. behind_five _ other p)
  best_else (next i c) = best_or_right (λ other p. let e : next i c ≡ end = p.0 in cc)
      (best_then (best_byte 0x05) (best_then (best_then (best_instruction i) (best_code c)) (best_byte 0x0B)))

pub best_expression : (c : Code) → Best (expression c) (expression_bytes c)
best_expression c = best_then (best_code c) (best_byte 0x0B)
