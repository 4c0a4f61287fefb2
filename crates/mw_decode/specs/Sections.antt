-- Reading modules.
use Rattle.std.specs.Prelude.{ℕ, zero, suc, ◌+◌, Bool, true, false, ◌&&◌, nat_eq, nat_le, nat_lt, if◌then◌else◌}
use Rattle.std.specs.Prelude.{List, [], ◌∷◌, ◌++◌, length, replicate, drop, Option, Some, None, Result, Ok, Err}
use Rattle.mw_wasm.specs.declared.values.ValType.{ValType}
use Rattle.mw_wasm.specs.declared.modules.Limits.{Limits}
use Rattle.mw_wasm.specs.declared.modules.FuncType.{FuncType}
use Rattle.mw_wasm.specs.declared.modules.Exported.{Exported}
use Rattle.mw_wasm.specs.declared.modules.Exported.TheVariants as exported
use Rattle.mw_wasm.specs.Syntax.{Code, Function, Global, Exporting, ElementSegment, DataSegment, PureModule}
use Rattle.mw_decode.specs.declared.fault.BadModule.{BadModule}
use Rattle.mw_decode.specs.declared.fault.BadModule.TheVariants as bad
use Rattle.mw_decode.specs.Reading.{Read, got, ended, faulty, Reader, place, and_then, ◌>>=◌, gives, Meaning, is, wrong}
use Rattle.mw_decode.specs.Reading.{outside, byte_of, fixed, u32, at_most, times, vector, optional, sized}
use Rattle.mw_decode.specs.Instructions.{value_type, expression}

abbrev pub function_type : Reader FuncType
function_type = do
  _ ← fixed 0x60
  params ← vector value_type
  n ← at_most 1
  results ← times n value_type
  gives (record { params = params; results = results })

abbrev pub has_max : ℕ → Meaning Bool
has_max b = if nat_eq b 0x00 then is false else if nat_eq b 0x01 then is true else wrong

abbrev pub maximum : Bool → Reader (Option ℕ)
maximum false = gives None
maximum true = do
  max ← u32
  gives (Some max)

abbrev pub limits : (most : ℕ) → Reader Limits
limits most = do
  more ← byte_of has_max
  min ← at_most most
  max ← maximum more
  gives (record { min = min; max = max })

abbrev pub table : Reader Limits
table = do
  _ ← fixed 0x70
  limits 100_000

abbrev pub memory : Reader Limits
memory = limits 1_024

abbrev pub global : Reader Global
global = do
  kind ← value_type
  variable ← byte_of has_max
  init ← expression
  gives (record { kind = kind; variable = variable; init = init })

abbrev pub printable : ℕ → Meaning ℕ
printable b = if nat_le 0x20 b && nat_le b 0x7E then is b else outside

abbrev pub export_kind : ℕ → Meaning (ℕ → Exported)
export_kind b =
    if nat_eq b 0x00 then is exported.Func else if nat_eq b 0x01 then is exported.Table
    else if nat_eq b 0x02 then is exported.Memory else if nat_eq b 0x03 then is exported.Global else wrong

abbrev pub export : Reader Exporting
export = do
  name ← vector (byte_of printable)
  what ← byte_of export_kind
  x ← u32
  gives (record { name = name; what = what x })

abbrev pub element : Reader ElementSegment
element = do
  _ ← at_most 0
  offset ← expression
  funcs ← vector u32
  gives (record { offset = offset; funcs = funcs })

abbrev pub data_segment : Reader DataSegment
data_segment = do
  _ ← at_most 0
  offset ← expression
  bytes ← vector (byte_of is)
  gives (record { offset = offset; bytes = bytes })

-- further locals, of which there are some already: a count that passes 50,000 in sum is outside the profile
abbrev pub run_count : (before : ℕ) → Reader ℕ
run_count before end bytes =
    and_then (u32 end bytes) λ n rest.
    if nat_le (before + n) 50_000 then got n rest else faulty (bad.OutsideProfile (place end bytes))

abbrev pub runs : ℕ → (before : ℕ) → Reader (List ValType)
runs zero before = gives []
runs (suc k) before = do
  n ← run_count before
  t ← value_type
  ts ← runs k (before + n)
  gives (replicate n t ++ ts)

-- a function without its type
pub record Body : Type 0 where
  pub locals : List ValType
  pub code : Code

abbrev pub body : Reader Body
body = do
  n ← u32
  locals ← runs n 0
  code ← expression
  gives (record { locals = locals; code = code })

-- a body's size is wrong, too, where its end lies behind the section's
abbrev pub function_code : Reader Body
function_code = sized (λ at. faulty (bad.Size at)) body

-- there are as many bodies as functions
abbrev pub bodies : (functions : ℕ) → Reader (List Body)
bodies functions end bytes =
    and_then (u32 end bytes) λ n rest.
    if nat_eq n functions then times n function_code end rest else faulty (bad.Section (place end bytes))

abbrev pub no_imports : Reader ℕ
no_imports = at_most 0

-- custom sections are skipped unread; at most so many of them
abbrev pub customs_within : ℕ → Reader (Unit {0})
customs_within zero end bytes = got tt bytes
customs_within (suc k) end [] = got tt []
customs_within (suc k) end (b ∷ rest) =
    if nat_eq b 0x00
    then and_then (u32 end rest) (λ size content.
    if nat_le size (length content) then customs_within k end (drop size content) else ended)
    else got tt (b ∷ rest)

abbrev pub customs : Reader (Unit {0})
customs end bytes = customs_within (length bytes) end bytes

-- The section of this identity, if it stands here: one of a later identity or the end says that it is missing.
abbrev pub section : {A : Type 0} → (id : ℕ) (missing : A) → Reader A → Reader A
section id missing content end [] = got missing []
section id missing content end (b ∷ rest) =
    if nat_eq b id then sized (λ _. ended) content end rest
    else if nat_lt id b && nat_le b 11 then got missing (b ∷ rest)
    else faulty (bad.Section (place end (b ∷ rest)))

abbrev pub after_customs : {A : Type 0} → Reader A → Reader A
after_customs r = do
  _ ← customs
  r

-- a start section is outside the profile
abbrev pub no_start : Reader (Unit {0})
no_start end [] = got tt []
no_start end (b ∷ rest) =
    if nat_eq b 8 then faulty (bad.OutsideProfile (place end (b ∷ rest)))
    else if nat_lt 8 b && nat_le b 11 then got tt (b ∷ rest)
    else faulty (bad.Section (place end (b ∷ rest)))

-- Nothing more but custom sections. Where bodies are missing and functions are declared, that shows here.
abbrev pub no_more : Bool → Reader (Unit {0})
no_more missing end [] = if missing then faulty (bad.Section end) else got tt []
no_more missing end (b ∷ rest) = faulty (bad.Section (place end (b ∷ rest)))

abbrev pub is_missing : ℕ → Option (List Body) → Bool
is_missing functions None = nat_lt 0 functions
is_missing functions (Some bs) = false

-- a section's content
abbrev pub present : {A : Type 0} → Reader A → Reader (Option A)
present r = do
  x ← r
  gives (Some x)

abbrev pub single : {A : Type 0} → Reader A → Reader (Option A)
single item = do
  n ← at_most 1
  optional n item

pub record Parts : Type 0 where
  pub types : List FuncType
  pub kinds : List ℕ
  pub table : Option Limits
  pub memory : Option Limits
  pub globals : List Global
  pub exports : List Exporting
  pub elements : List ElementSegment
  pub bodies : Option (List Body)
  pub segments : List DataSegment

-- The eleven sections, each behind custom sections (standard: Binary Format, Modules).
-- The section of bodies may be missing.
abbrev pub type_section : Reader (List FuncType)
type_section = after_customs (section 1 [] (vector function_type))

abbrev pub import_section : Reader ℕ
import_section = after_customs (section 2 0 no_imports)

abbrev pub function_section : Reader (List ℕ)
function_section = after_customs (section 3 [] (vector u32))

abbrev pub table_section : Reader (Option Limits)
table_section = after_customs (section 4 None (single table))

abbrev pub memory_section : Reader (Option Limits)
memory_section = after_customs (section 5 None (single memory))

abbrev pub global_section : Reader (List Global)
global_section = after_customs (section 6 [] (vector global))

abbrev pub export_section : Reader (List Exporting)
export_section = after_customs (section 7 [] (vector export))

abbrev pub start_section : Reader (Unit {0})
start_section = after_customs no_start

abbrev pub element_section : Reader (List ElementSegment)
element_section = after_customs (section 9 [] (vector element))

abbrev pub code_section : (functions : ℕ) → Reader (Option (List Body))
code_section functions = after_customs (section 10 None (present (bodies functions)))

abbrev pub data_section : Reader (List DataSegment)
data_section = after_customs (section 11 [] (vector data_segment))

abbrev pub end_of_file : Bool → Reader (Unit {0})
end_of_file missing = after_customs (no_more missing)

-- what stands behind the header
abbrev pub sections : Reader Parts
sections = do
  types ← type_section
  _ ← import_section
  kinds ← function_section
  table ← table_section
  memory ← memory_section
  globals ← global_section
  exports ← export_section
  _ ← start_section
  elements ← element_section
  bodies ← code_section (length kinds)
  segments ← data_section
  _ ← end_of_file (is_missing (length kinds) bodies)
  gives (record {
    types = types;
    kinds = kinds;
    table = table;
    memory = memory;
    globals = globals;
    exports = exports;
    elements = elements;
    bodies = bodies;
    segments = segments;
  })

-- functions are their types in order and their bodies in order
abbrev pub functions : List ℕ → List Body → List Function
functions (k ∷ ks) (b ∷ bs) = record { kind = k; locals = b.locals; body = b.code } ∷ functions ks bs
functions _ _ = []

abbrev pub given : Option (List Body) → List Body
given None = []
given (Some bs) = bs

abbrev pub module_of : Parts → PureModule
module_of p = record {
  types = p.types;
  funcs = functions p.kinds (given p.bodies);
  table = p.table;
  memory = p.memory;
  globals = p.globals;
  exports = p.exports;
  elements = p.elements;
  segments = p.segments;
}

-- A file that ends inside a module is short, of this length.
abbrev pub answer : ℕ → Read Parts → Result PureModule BadModule
answer len (got p rest) = Ok (module_of p)
answer len ended = Err (bad.Short len)
answer len (faulty f) = Err f

abbrev pub starts : List ℕ → Bool
starts (b0 ∷ b1 ∷ b2 ∷ b3 ∷ b4 ∷ b5 ∷ b6 ∷ b7 ∷ rest) =
    nat_eq b0 0x00 && nat_eq b1 0x61 && nat_eq b2 0x73 && nat_eq b3 0x6D && nat_eq b4 0x01 && nat_eq b5 0x00
    && nat_eq b6 0x00 && nat_eq b7 0x00
starts _ = false

-- the module that bytes spell, or their first fault, however many bytes they are
abbrev pub module_in : List ℕ → Result PureModule BadModule
module_in bytes = if starts bytes then answer (length bytes) (sections (length bytes) (drop 8 bytes)) else Err bad.Magic

-- the module that a file's bytes spell, or their first fault:
-- a file longer than the limit is outside the profile before it is read
abbrev pub module_read : List ℕ → Result PureModule BadModule
module_read bytes = if nat_lt 67_108_864 (length bytes) then Err (bad.OutsideProfile 67_108_864) else module_in bytes
