-- What an instance holds (standard: Execution, Runtime Structure).
use Rattle.std.specs.Prelude.{ℕ, zero, suc, ◌+◌, ◌-◌, ◌*◌, ◌/◌, ◌%◌, ◌^◌, nat_le, nat_lt, Bool, ◌&&◌, if◌then◌else◌}
use Rattle.std.specs.Prelude.{List, Option}
use Rattle.mw_wasm.specs.declared.values.Value.{Value}
use Rattle.mw_wasm.specs.declared.values.Value.TheVariants as value
use Rattle.mw_wasm.specs.declared.values.ValType.{ValType}
use Rattle.mw_wasm.specs.declared.values.ValType.TheVariants as type
use Rattle.mw_wasm.specs.declared.numbers.LoadOp.{LoadOp}
use Rattle.mw_wasm.specs.declared.numbers.LoadOp.TheVariants as load
use Rattle.mw_wasm.specs.declared.numbers.StoreOp.{StoreOp}
use Rattle.mw_wasm.specs.declared.numbers.StoreOp.TheVariants as store

-- a memory: its size in pages of 65,536 bytes, and the byte at each address below its end
pub record Memory : Type 0 where
  pub pages : ℕ
  pub byte_at : ℕ → ℕ

-- Globals, the table's elements (None where there is no function) and the memory. An instance without a table has one
-- of no elements, and one without a memory has one of no pages: no valid instruction names them.
pub record Store : Type 0 where
  pub globals : List Value
  pub table : List (Option ℕ)
  pub memory : Memory

-- zero, which further locals begin with
abbrev pub zero_of : ValType → Value
zero_of type.I32 = value.I32 0
zero_of type.I64 = value.I64 0

-- whether the k bytes from an address on lie in the memory
abbrev pub is_inside : Memory → ℕ → ℕ → Bool
is_inside m address k = nat_le (address + k) (m.pages * 65536)

-- the number in the k bytes from an address on, the lowest byte first
abbrev pub read_bytes : ℕ → ℕ → Memory → ℕ
read_bytes zero address m = 0
read_bytes (suc k) address m = m.byte_at address + 256 * read_bytes k (suc address) m

-- whether an address is one of the k from a on
abbrev pub is_among : ℕ → ℕ → ℕ → Bool
is_among k a address = nat_le a address && nat_lt address (a + k)

-- the number's k low bytes written from an address on, the lowest first
abbrev pub write_bytes : ℕ → ℕ → ℕ → Memory → Memory
write_bytes k a n m = record {
  pages = m.pages;
  byte_at = λ address. if is_among k a address then (n / 256 ^ (address - a)) % 256 else m.byte_at address;
}

-- a number of m bits as one of n bits with the same sign
abbrev pub extended : ℕ → ℕ → ℕ → ℕ
extended m n x = if nat_lt x (2 ^ (m - 1)) then x else x + (2 ^ n - 2 ^ m)

-- the bytes that a load reads, and the value that it makes of their number
abbrev pub load_size : LoadOp → ℕ
load_size load.I32 = 4
load_size load.I64 = 8
load_size load.I32S8 = 1
load_size load.I32U8 = 1
load_size load.I32S16 = 2
load_size load.I32U16 = 2
load_size load.I64S8 = 1
load_size load.I64U8 = 1
load_size load.I64S16 = 2
load_size load.I64U16 = 2
load_size load.I64S32 = 4
load_size load.I64U32 = 4

abbrev pub loaded : LoadOp → ℕ → Value
loaded load.I32 n = value.I32 n
loaded load.I64 n = value.I64 n
loaded load.I32S8 n = value.I32 (extended 8 32 n)
loaded load.I32U8 n = value.I32 n
loaded load.I32S16 n = value.I32 (extended 16 32 n)
loaded load.I32U16 n = value.I32 n
loaded load.I64S8 n = value.I64 (extended 8 64 n)
loaded load.I64U8 n = value.I64 n
loaded load.I64S16 n = value.I64 (extended 16 64 n)
loaded load.I64U16 n = value.I64 n
loaded load.I64S32 n = value.I64 (extended 32 64 n)
loaded load.I64U32 n = value.I64 n

-- the type of a store's operand, and the bytes that it writes
abbrev pub store_type : StoreOp → ValType
store_type store.I32 = type.I32
store_type store.I64 = type.I64
store_type store.I32To8 = type.I32
store_type store.I32To16 = type.I32
store_type store.I64To8 = type.I64
store_type store.I64To16 = type.I64
store_type store.I64To32 = type.I64

abbrev pub store_size : StoreOp → ℕ
store_size store.I32 = 4
store_size store.I64 = 8
store_size store.I32To8 = 1
store_size store.I32To16 = 2
store_size store.I64To8 = 1
store_size store.I64To16 = 2
store_size store.I64To32 = 4
