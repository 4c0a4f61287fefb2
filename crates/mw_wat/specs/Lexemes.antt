-- What the text of a module says, from left to right. A lexeme is what one token says, with its meaning.
--
--     module = "(" "module" { type } { func } [ table ] [ memory ] { global } { export } { elem } { data } ")"
--     type   = "(" "type" "(" "func" [ "(" "param" vt { vt } ")" ] [ "(" "result" vt ")" ] ")" ")"
--     func   = "(" "func" "(" "type" N ")" [ "(" "local" vt { vt } ")" ] { instr } ")"
--     table  = "(" "table" N [ N ] "funcref" ")"
--     memory = "(" "memory" N [ N ] ")"
--     global = "(" "global" ( vt | "(" "mut" vt ")" ) { instr } ")"
--     export = "(" "export" string "(" ( "func" | "table" | "memory" | "global" ) N ")" ")"
--     elem   = "(" "elem" "(" "offset" { instr } ")" { N } ")"
--     data   = "(" "data" "(" "offset" { instr } ")" string ")"
--     instr  = name { N } | name "offset=N" "exp=N" | "call_indirect" "(" "type" N ")"
--            | ( "block" | "loop" ) [ "(" "result" vt ")" ] { instr } "end"
--            | "if" [ "(" "result" vt ")" ] { instr } [ "else" instr { instr } ] "end"
--     vt     = "i32" | "i64"
--
-- A module has one list of lexemes, so the grammar is a function from modules to lexemes.
use Rattle.std.specs.Prelude.{ℕ, ◌<◌, ◌^◌, true, false, Bool, List, [], ◌∷◌, ◌++◌, map, codes}
use Rattle.std.specs.List.{AllByRecursion, flat_map}
use Rattle.std.specs.Fmt.{decimal, signed_decimal}
use Rattle.std.specs.Int.{Width, w32, w64, cast_signed}
use mir.Val.{bits}
use Rattle.mw_wasm.specs.declared.values.ValType.{ValType}
use Rattle.mw_wasm.specs.declared.modules.Limits.{Limits}
use Rattle.mw_wasm.specs.declared.modules.FuncType.{FuncType}
use Rattle.mw_wasm.specs.declared.modules.Exported.{Exported}
use Rattle.mw_wasm.specs.declared.modules.Exported.TheVariants as what
use Rattle.mw_wasm.specs.Syntax.{Instruction, Code, unreachable, nop, block, loop, cond, br, br_if, br_table, give_back}
use Rattle.mw_wasm.specs.Syntax.{call, call_indirect, drop_value, select, local_get, local_set, local_tee, global_get}
use Rattle.mw_wasm.specs.Syntax.{global_set, load, store, memory_size, memory_grow, const_i32, const_i64, numeric, end}
use Rattle.mw_wasm.specs.Syntax.{next, Function, Global, Exporting, ElementSegment, DataSegment, PureModule}
use Rattle.mw_wasm.specs.BinaryModules.{at_most_one}
use Rattle.mw_wasm.specs.Profile.{IsPrintable}
use Rattle.mw_wat.specs.Tokens.{PureToken}
use Rattle.mw_wat.specs.Tokens as token
use Rattle.mw_wat.specs.Names.{type_name, number_name, load_name, store_name}

pub data Lexeme : Type 0 where
  left : Lexeme
  right : Lexeme
  word : (w : List ℕ) → Lexeme  -- a word of the grammar
  number : (n : ℕ) → Lexeme  -- an index, a label or a limit
  keyed : (key : List ℕ) (n : ℕ) → Lexeme  -- a number behind a key, in one word
  constant : (w : Width) (n : ℕ) → Lexeme  -- an integer of 32 or 64 bits, in its signed reading
  name : (bytes : List ℕ) → Lexeme
  octets : (bytes : List ℕ) → Lexeme

-- the token that says it
abbrev pub token_of : Lexeme → PureToken
token_of left = token.left
token_of right = token.right
token_of (word w) = token.word w
token_of (number n) = token.word (decimal n)
token_of (keyed key n) = token.word (key ++ decimal n)
token_of (constant w n) = token.word (signed_decimal (cast_signed w n))
token_of (name bytes) = token.string bytes
token_of (octets bytes) = token.string bytes

-- the ranges of the binary format, and printable names
abbrev pub IsInRange : Lexeme → Type 0
IsInRange (number n) = n < 2 ^ 32
IsInRange (keyed key n) = n < 2 ^ 32
IsInRange (constant w n) = n < 2 ^ bits w
IsInRange (name bytes) = AllByRecursion IsPrintable bytes
IsInRange (octets bytes) = AllByRecursion (λ b. b < 2 ^ 8) bytes
IsInRange _ = Unit {0}

-- lexemes in parentheses
abbrev pub within : List Lexeme → List Lexeme
within lexemes = left ∷ lexemes ++ right ∷ []

-- types behind a word, in parentheses; nothing where there are none
abbrev pub types_behind : List ℕ → List ValType → List Lexeme
types_behind w [] = []
types_behind w (t ∷ ts) = within (word w ∷ map (λ t. word (type_name t)) (t ∷ ts))

abbrev pub addressed : List ℕ → ℕ → ℕ → List Lexeme
addressed w align offset = word w ∷ keyed (codes "offset=") offset ∷ keyed (codes "exp=") align ∷ []

abbrev mutual
  pub instruction : Instruction → List Lexeme
  instruction unreachable = word (codes "unreachable") ∷ []
  instruction nop = word (codes "nop") ∷ []
  instruction (block t body) = word (codes "block") ∷ types_behind (codes "result") (at_most_one t) ++ code body
      ++ word (codes "end") ∷ []
  instruction (loop t body) = word (codes "loop") ∷ types_behind (codes "result") (at_most_one t) ++ code body
      ++ word (codes "end") ∷ []
  instruction (cond t a b) = word (codes "if") ∷ types_behind (codes "result") (at_most_one t) ++ code a
      ++ otherwise b ++ word (codes "end") ∷ []
  instruction (br l) = word (codes "br") ∷ number l ∷ []
  instruction (br_if l) = word (codes "br_if") ∷ number l ∷ []
  instruction (br_table ls l) = word (codes "br_table") ∷ map number ls ++ number l ∷ []
  instruction give_back = word (codes "return") ∷ []
  instruction (call f) = word (codes "call") ∷ number f ∷ []
  instruction (call_indirect t) = word (codes "call_indirect") ∷ within (word (codes "type") ∷ number t ∷ [])
  instruction drop_value = word (codes "drop") ∷ []
  instruction select = word (codes "select") ∷ []
  instruction (local_get x) = word (codes "local.get") ∷ number x ∷ []
  instruction (local_set x) = word (codes "local.set") ∷ number x ∷ []
  instruction (local_tee x) = word (codes "local.tee") ∷ number x ∷ []
  instruction (global_get x) = word (codes "global.get") ∷ number x ∷ []
  instruction (global_set x) = word (codes "global.set") ∷ number x ∷ []
  instruction (load o align offset) = addressed (load_name o) align offset
  instruction (store o align offset) = addressed (store_name o) align offset
  instruction memory_size = word (codes "memory.size") ∷ []
  instruction memory_grow = word (codes "memory.grow") ∷ []
  instruction (const_i32 n) = word (codes "i32.const") ∷ constant w32 n ∷ []
  instruction (const_i64 n) = word (codes "i64.const") ∷ constant w64 n ∷ []
  instruction (numeric o) = word (number_name o) ∷ []

  pub code : Code → List Lexeme
  code end = []
  code (next i c) = instruction i ++ code c

  -- the second list of an if, where there is one
  pub otherwise : Code → List Lexeme
  otherwise end = []
  otherwise (next i c) = word (codes "else") ∷ instruction i ++ code c

-- a field is a line of the canonical text
abbrev pub function_type : FuncType → List Lexeme
function_type t = within
    (word (codes "type") ∷ within
    (word (codes "func") ∷ types_behind (codes "param") t.params ++ types_behind (codes "result") t.results))

abbrev pub function : Function → List Lexeme
function f = within
    (word (codes "func") ∷ within (word (codes "type") ∷ number f.kind ∷ []) ++ types_behind (codes "local") f.locals
    ++ code f.body)

abbrev pub limits : Limits → List Lexeme
limits l = number l.min ∷ map number (at_most_one l.max)

abbrev pub table : Limits → List Lexeme
table l = within (word (codes "table") ∷ limits l ++ word (codes "funcref") ∷ [])

abbrev pub memory : Limits → List Lexeme
memory l = within (word (codes "memory") ∷ limits l)

abbrev pub global_type : Bool → ValType → List Lexeme
global_type false t = word (type_name t) ∷ []
global_type true t = within (word (codes "mut") ∷ word (type_name t) ∷ [])

abbrev pub global : Global → List Lexeme
global g = within (word (codes "global") ∷ global_type g.variable g.kind ++ code g.init)

abbrev pub exported : Exported → List Lexeme
exported (what.Func x) = word (codes "func") ∷ number x ∷ []
exported (what.Table x) = word (codes "table") ∷ number x ∷ []
exported (what.Memory x) = word (codes "memory") ∷ number x ∷ []
exported (what.Global x) = word (codes "global") ∷ number x ∷ []

abbrev pub export : Exporting → List Lexeme
export e = within (word (codes "export") ∷ name e.name ∷ within (exported e.what))

abbrev pub offset : Code → List Lexeme
offset c = within (word (codes "offset") ∷ code c)

abbrev pub element : ElementSegment → List Lexeme
element e = within (word (codes "elem") ∷ offset e.offset ++ map number e.funcs)

abbrev pub data_segment : DataSegment → List Lexeme
data_segment d = within (word (codes "data") ∷ offset d.offset ++ octets d.bytes ∷ [])

-- the fields in order
abbrev pub fields : PureModule → List (List Lexeme)
fields m = map function_type m.types ++ map function m.funcs ++ map table (at_most_one m.table) ++ map memory
    (at_most_one m.memory)
    ++ map global m.globals ++ map export m.exports ++ map element m.elements ++ map data_segment m.segments

-- the canonical text's lines
abbrev pub lines : PureModule → List (List Lexeme)
lines m = (left ∷ word (codes "module") ∷ []) ∷ fields m ++ (right ∷ []) ∷ []

abbrev pub lexemes : PureModule → List Lexeme
lexemes m = flat_map (λ line. line) (lines m)

-- the tokens of a module's text
abbrev pub tokens_of : PureModule → List PureToken
tokens_of m = map token_of (lexemes m)
