-- The canonical bytes of a module: its shortest spelling, in the order of the format (standard: Binary Format).
use Rattle.std.specs.Prelude.{ℕ, ◌+◌, ◌-◌, ◌^◌, ◌≤◌, ℤ, pos, negsuc, Bool, true, false, nat_lt, if◌then◌else◌, List, []}
use Rattle.std.specs.Prelude.{◌∷◌, ◌++◌, length, Option, Some, None}
use Rattle.std.specs.List.{flat_map}
use Rattle.mw_wasm.specs.declared.values.ValType.{ValType}
use Rattle.mw_wasm.specs.declared.values.ValType.TheVariants as value
use Rattle.mw_wasm.specs.declared.modules.Limits.{Limits}
use Rattle.mw_wasm.specs.declared.modules.FuncType.{FuncType}
use Rattle.mw_wasm.specs.declared.modules.Exported.{Exported}
use Rattle.mw_wasm.specs.declared.modules.Exported.TheVariants.{Func, Table, Memory, Global as Variable}
use Rattle.mw_wasm.specs.Syntax.{Instruction, Code, unreachable, nop, block, loop, cond, br, br_if, br_table, give_back}
use Rattle.mw_wasm.specs.Syntax.{call, call_indirect, drop_value, select, local_get, local_set, local_tee, global_get}
use Rattle.mw_wasm.specs.Syntax.{global_set, load, store, memory_size, memory_grow, const_i32, const_i64, numeric, end}
use Rattle.mw_wasm.specs.Syntax.{next, Function, Global, Exporting, ElementSegment, DataSegment, PureModule}
use Rattle.mw_wasm.specs.BinaryInstructions.{load_opcode, store_opcode, opcode_of_number}
use Rattle.mw_wasm.specs.BinaryModules.{Run, at_most_one, Spells}
use Rattle.mw_leb.specs.Shortest.{shortest_unsigned, shortest_signed}

-- some bytes spell it
pub record Spelled (P : List ℕ → Type 0) : Type 0 where
  pub bytes : List ℕ
  pub spell : P bytes

-- numbers: indices, counts and sizes unsigned, constants as the signed numbers of N bits that their bits stand for
abbrev pub number : ℕ → List ℕ
number n = shortest_unsigned n

abbrev pub signed_of : ℕ → ℕ → ℤ
signed_of N n = if nat_lt n (2 ^ (N - 1)) then pos n else negsuc (2 ^ N - 1 - n)

abbrev pub constant : ℕ → ℕ → List ℕ
constant N n = shortest_signed (signed_of N n)

-- a vector: the number of its items, and these
abbrev pub vector_bytes : {A : Type 0} → (A → List ℕ) → List A → List ℕ
vector_bytes f xs = number (length xs) ++ flat_map f xs

-- a content after its size
abbrev pub sized_bytes : List ℕ → List ℕ
sized_bytes content = number (length content) ++ content

abbrev pub value_type_byte : ValType → ℕ
value_type_byte value.I32 = 0x7F
value_type_byte value.I64 = 0x7E

abbrev pub value_type_bytes : ValType → List ℕ
value_type_bytes t = value_type_byte t ∷ []

abbrev pub block_type_byte : Option ValType → ℕ
block_type_byte None = 0x40
block_type_byte (Some t) = value_type_byte t

abbrev mutual
  -- an instruction: its opcode, and its immediates
  pub instruction_bytes : Instruction → List ℕ
  instruction_bytes unreachable = 0x00 ∷ []
  instruction_bytes nop = 0x01 ∷ []
  instruction_bytes (block t body) = 0x02 ∷ block_type_byte t ∷ (code_bytes body ++ 0x0B ∷ [])
  instruction_bytes (loop t body) = 0x03 ∷ block_type_byte t ∷ (code_bytes body ++ 0x0B ∷ [])
  instruction_bytes (cond t a b) = 0x04 ∷ block_type_byte t ∷ (code_bytes a ++ else_bytes b)
  instruction_bytes (br l) = 0x0C ∷ number l
  instruction_bytes (br_if l) = 0x0D ∷ number l
  instruction_bytes (br_table ls l) = 0x0E ∷ (vector_bytes number ls ++ number l)
  instruction_bytes give_back = 0x0F ∷ []
  instruction_bytes (call f) = 0x10 ∷ number f
  instruction_bytes (call_indirect t) = 0x11 ∷ (number t ++ 0x00 ∷ [])
  instruction_bytes drop_value = 0x1A ∷ []
  instruction_bytes select = 0x1B ∷ []
  instruction_bytes (local_get x) = 0x20 ∷ number x
  instruction_bytes (local_set x) = 0x21 ∷ number x
  instruction_bytes (local_tee x) = 0x22 ∷ number x
  instruction_bytes (global_get x) = 0x23 ∷ number x
  instruction_bytes (global_set x) = 0x24 ∷ number x
  instruction_bytes (load o align offset) = load_opcode o ∷ (number align ++ number offset)
  instruction_bytes (store o align offset) = store_opcode o ∷ (number align ++ number offset)
  instruction_bytes memory_size = 0x3F ∷ 0x00 ∷ []
  instruction_bytes memory_grow = 0x40 ∷ 0x00 ∷ []
  instruction_bytes (const_i32 n) = 0x41 ∷ constant 32 n
  instruction_bytes (const_i64 n) = 0x42 ∷ constant 64 n
  instruction_bytes (numeric o) = opcode_of_number o ∷ []

  -- instructions in order
  pub code_bytes : Code → List ℕ
  code_bytes end = []
  code_bytes (next i c) = instruction_bytes i ++ code_bytes c

  -- the second list of an if and its end: 05 stands only before a list that isn't empty
  pub else_bytes : Code → List ℕ
  else_bytes end = 0x0B ∷ []
  else_bytes (next i c) = 0x05 ∷ ((instruction_bytes i ++ code_bytes c) ++ 0x0B ∷ [])

abbrev pub expression_bytes : Code → List ℕ
expression_bytes c = code_bytes c ++ 0x0B ∷ []

abbrev pub function_type_bytes : FuncType → List ℕ
function_type_bytes t = 0x60 ∷ (vector_bytes value_type_bytes t.params ++ vector_bytes value_type_bytes t.results)

abbrev pub limits_of_bytes : ℕ → Option ℕ → List ℕ
limits_of_bytes min None = 0x00 ∷ number min
limits_of_bytes min (Some max) = 0x01 ∷ (number min ++ number max)

abbrev pub limits_bytes : Limits → List ℕ
limits_bytes l = limits_of_bytes l.min l.max

abbrev pub table_bytes : Limits → List ℕ
table_bytes l = 0x70 ∷ limits_bytes l

abbrev pub mutability_byte : Bool → ℕ
mutability_byte false = 0x00
mutability_byte true = 0x01

abbrev pub global_bytes : Global → List ℕ
global_bytes g = value_type_byte g.kind ∷ mutability_byte g.variable ∷ expression_bytes g.init

abbrev pub function_kind_bytes : Function → List ℕ
function_kind_bytes f = number f.kind

abbrev pub exported_bytes : Exported → List ℕ
exported_bytes (Func x) = 0x00 ∷ number x
exported_bytes (Table x) = 0x01 ∷ number x
exported_bytes (Memory x) = 0x02 ∷ number x
exported_bytes (Variable x) = 0x03 ∷ number x

abbrev pub octet_bytes : ℕ → List ℕ
octet_bytes b = b ∷ []

abbrev pub export_bytes : Exporting → List ℕ
export_bytes e = vector_bytes octet_bytes e.name ++ exported_bytes e.what

abbrev pub element_bytes : ElementSegment → List ℕ
element_bytes e = number 0 ++ (expression_bytes e.offset ++ vector_bytes number e.funcs)

abbrev pub segment_bytes : DataSegment → List ℕ
segment_bytes d = number 0 ++ (expression_bytes d.offset ++ vector_bytes octet_bytes d.bytes)

-- Equal neighbouring locals are one run: n locals of type t, and then these.
abbrev pub same_type : ValType → ValType → Bool
same_type value.I32 value.I32 = true
same_type value.I32 value.I64 = false
same_type value.I64 value.I32 = false
same_type value.I64 value.I64 = true

unfoldable pub runs_from : ValType → ℕ → List ValType → List Run
runs_from t n [] = record { count = n; kind = t } ∷ []
runs_from t n (u ∷ us) = if same_type t u then runs_from t (n + 1) us else record { count = n; kind = t }
    ∷ runs_from u 1 us

unfoldable pub runs_of : List ValType → List Run
runs_of [] = []
runs_of (t ∷ ts) = runs_from t 1 ts

abbrev pub run_bytes : Run → List ℕ
run_bytes r = number r.count ++ value_type_bytes r.kind

abbrev pub locals_bytes : List ValType → List ℕ
locals_bytes types = vector_bytes run_bytes (runs_of types)

abbrev pub function_code_bytes : Function → List ℕ
function_code_bytes f = sized_bytes (locals_bytes f.locals ++ expression_bytes f.body)

-- a section, which stands only where its vector isn't empty
abbrev pub section_bytes : {A : Type 0} → ℕ → (A → List ℕ) → List A → List ℕ
section_bytes id f [] = []
section_bytes id f (x ∷ xs) = id ∷ sized_bytes (vector_bytes f (x ∷ xs))

abbrev pub header_bytes : List ℕ
header_bytes = 0x00 ∷ 0x61 ∷ 0x73 ∷ 0x6D ∷ 0x01 ∷ 0x00 ∷ 0x00 ∷ 0x00 ∷ []

-- the sections of a module, after bytes that are there
abbrev pub with_sections : List ℕ → PureModule → List ℕ
with_sections old m = old
    ++ section_bytes 1 function_type_bytes m.types
    ++ section_bytes 3 function_kind_bytes m.funcs
    ++ section_bytes 4 table_bytes (at_most_one m.table)
    ++ section_bytes 5 limits_bytes (at_most_one m.memory)
    ++ section_bytes 6 global_bytes m.globals
    ++ section_bytes 7 export_bytes m.exports
    ++ section_bytes 9 element_bytes m.elements
    ++ section_bytes 10 function_code_bytes m.funcs
    ++ section_bytes 11 segment_bytes m.segments

abbrev pub encoding : PureModule → List ℕ
encoding m = header_bytes
    ++ section_bytes 1 function_type_bytes m.types
    ++ section_bytes 3 function_kind_bytes m.funcs
    ++ section_bytes 4 table_bytes (at_most_one m.table)
    ++ section_bytes 5 limits_bytes (at_most_one m.memory)
    ++ section_bytes 6 global_bytes m.globals
    ++ section_bytes 7 export_bytes m.exports
    ++ section_bytes 9 element_bytes m.elements
    ++ section_bytes 10 function_code_bytes m.funcs
    ++ section_bytes 11 segment_bytes m.segments

-- no spelling of a module is shorter than its encoding
abbrev pub EncodingIsShortest : Type 0
EncodingIsShortest = (m : PureModule) (bytes : List ℕ) → Spells bytes m → Spells (encoding m) m
    × (length (encoding m) ≤ length bytes)
