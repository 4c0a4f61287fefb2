-- How modules are spelled (standard: Binary Format, Types and Modules).
use Rattle.std.specs.Prelude.{◌≡◌, ℕ, ◌<◌, ◌^◌, Bool, true, false, List, [], ◌∷◌, length, replicate, Option, Some, None}
use Rattle.std.specs.List.{flat_map}
use Rattle.mw_wasm.specs.declared.values.ValType.{ValType}
use Rattle.mw_wasm.specs.declared.modules.Limits.{Limits}
use Rattle.mw_wasm.specs.declared.modules.FuncType.{FuncType}
use Rattle.mw_wasm.specs.declared.modules.Exported.{Exported}
use Rattle.mw_wasm.specs.declared.modules.Exported.TheVariants.{Func, Table, Memory, Global as Variable}
use Rattle.mw_wasm.specs.Syntax.{Function, Global, Exporting, ElementSegment, DataSegment, PureModule}
use Rattle.mw_wasm.specs.Pieces.{Piece, nothing, byte, exactly, octet, ◌then◌, ◌or◌, ◌when◌, u32, items, vector, sized}
use Rattle.mw_wasm.specs.BinaryInstructions.{value_type, expression}

-- function types (standard: Binary Format, Types, Function Types)
abbrev pub function_type : FuncType → Piece
function_type t = byte 0x60 then vector value_type t.params then vector value_type t.results

-- limits without and with a maximum (standard: Binary Format, Types, Limits)
abbrev pub limits_of : ℕ → Option ℕ → Piece
limits_of min None = byte 0x00 then u32 min
limits_of min (Some max) = byte 0x01 then u32 min then u32 max

abbrev pub limits : Limits → Piece
limits l = limits_of l.min l.max

-- tables, of functions alone (standard: Binary Format, Types, Table Types)
abbrev pub table : Limits → Piece
table l = byte 0x70 then limits l

-- globals that stay, and variables (standard: Binary Format, Types, Global Types)
abbrev pub mutability : Bool → Piece
mutability false = byte 0x00
mutability true = byte 0x01

-- (standard: Binary Format, Modules, Global Section)
abbrev pub global : Global → Piece
global g = value_type g.kind then mutability g.variable then expression g.init

-- the function section holds a type's index for each function (standard: Binary Format, Modules, Function Section)
abbrev pub function_kind : Function → Piece
function_kind f = u32 f.kind

-- what is exported: its kind and its index (standard: Binary Format, Modules, Export Section)
abbrev pub exported : Exported → Piece
exported (Func x) = byte 0x00 then u32 x
exported (Table x) = byte 0x01 then u32 x
exported (Memory x) = byte 0x02 then u32 x
exported (Variable x) = byte 0x03 then u32 x

-- a name is its bytes; the profile leaves printable ASCII alone
abbrev pub export : Exporting → Piece
export e = vector octet e.name then exported e.what

-- segments of table 0 and of memory 0 (standard: Binary Format, Modules, Element Section and Data Section)
abbrev pub element : ElementSegment → Piece
element e = u32 0 then expression e.offset then vector u32 e.funcs

abbrev pub data_segment : DataSegment → Piece
data_segment d = u32 0 then expression d.offset then vector octet d.bytes

-- so many locals of one type
pub record Run : Type 0 where
  pub count : ℕ
  pub kind : ValType

abbrev pub run : Run → Piece
run r = u32 r.count then value_type r.kind

-- further locals, in runs of one type
pub record Locals (types : List ValType) (bytes : List ℕ) : Type 0 where
  pub runs : List Run
  pub spelled : vector run runs bytes
  pub types_are : types ≡ flat_map (λ r. replicate r.count r.kind) runs
  pub few : length types < 2 ^ 32

abbrev pub locals : List ValType → Piece
locals types bytes = Locals types bytes

-- the code section holds the rest of each function (standard: Binary Format, Modules, Code Section)
abbrev pub function_code : Function → Piece
function_code f = sized (locals f.locals then expression f.body)

-- a section: its identity, its size and a vector; one with an empty vector may be missing (standard: Binary Format,
-- Modules, Sections)
abbrev pub section : {A : Type 0} → ℕ → (A → Piece) → List A → Piece
section id P xs = nothing when (xs ≡ []) or byte id then sized (vector P xs)

-- an import section of no imports, or none
abbrev pub import_section : Piece
import_section = nothing or byte 0x02 then sized (u32 0)

-- custom sections, in any number, whose content is not read (standard: Binary Format, Modules, Custom Section)
pub record Customs (bytes : List ℕ) : Type 0 where
  pub contents : List (List ℕ)
  pub spelled : items (λ content. byte 0x00 then sized (exactly content)) contents bytes

abbrev pub customs : Piece
customs bytes = Customs bytes

-- the one item or none
abbrev pub at_most_one : {A : Type 0} → Option A → List A
at_most_one None = []
at_most_one (Some x) = x ∷ []

-- the first eight bytes: "\0asm" and version 1
abbrev pub header : Piece
header = exactly (0x00 ∷ 0x61 ∷ 0x73 ∷ 0x6D ∷ 0x01 ∷ 0x00 ∷ 0x00 ∷ 0x00 ∷ [])

-- modules, without a start section (standard: Binary Format, Modules)
abbrev pub wasm_module : PureModule → Piece
wasm_module m = header
    then customs then section 1 function_type m.types
    then customs then import_section
    then customs then section 3 function_kind m.funcs
    then customs then section 4 table (at_most_one m.table)
    then customs then section 5 limits (at_most_one m.memory)
    then customs then section 6 global m.globals
    then customs then section 7 export m.exports
    then customs then section 9 element m.elements
    then customs then section 10 function_code m.funcs
    then customs then section 11 data_segment m.segments
    then customs

abbrev pub Spells : List ℕ → PureModule → Type 0
Spells bytes m = wasm_module m bytes
