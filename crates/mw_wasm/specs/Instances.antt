-- Instances, and the invocation of a function (standard: Execution, Modules, Instantiation and Invocation).
use Rattle.std.specs.Prelude.{ℕ, ◌+◌, ◌-◌, nat_eq, nat_le, Bool, true, false, not, if◌then◌else◌, List, [], ◌∷◌, ◌++◌}
use Rattle.std.specs.Prelude.{map, length, take, drop, replicate, position, get_or, Option, Some, None, unwrap_or}
use Rattle.std.specs.Prelude.{Result, Ok, Err, slice_get}
use Rattle.std.specs.Cmp.Lexicographic.{pointwise}
use Rattle.mw_wasm.specs.declared.values.Value.{Value}
use Rattle.mw_wasm.specs.declared.values.Value.TheVariants.{I32}
use Rattle.mw_wasm.specs.declared.values.ValType.{ValType}
use Rattle.mw_wasm.specs.declared.modules.Limits.{Limits}
use Rattle.mw_wasm.specs.declared.modules.FuncType.{FuncType}
use Rattle.mw_wasm.specs.declared.modules.Exported.{Exported}
use Rattle.mw_wasm.specs.declared.modules.Exported.TheVariants as exported_as
use Rattle.mw_wasm.specs.Syntax.{Code, end, next, Function, Global, Exporting, ElementSegment, DataSegment, PureModule}
use Rattle.mw_wasm.specs.Store.{Memory, Store, zero_of, is_inside, is_among}
use Rattle.mw_wasm.specs.NumericTypes.{type_of_value}
use Rattle.mw_wasm.specs.Act.{constant, bits_of, same_value_types}
use Rattle.mw_wasm.specs.Reduction.{label, frame, Sequence, nothing, first, code_then}
use Rattle.mw_wasm.specs.Execution.{End, lost, execution}

-- the function that an export gives under a name, or else another
abbrev pub function_or : Bool → Exported → Option ℕ → Option ℕ
function_or true (exported_as.Func f) other = Some f
function_or _ _ other = other

-- the first function exported under a name
abbrev pub exported_among : List ℕ → List Exporting → Option ℕ
exported_among name [] = None
exported_among name (e ∷ es) = function_or (pointwise nat_eq e.name name) e.what (exported_among name es)

abbrev pub exported : PureModule → List ℕ → Option ℕ
exported m name = exported_among name m.exports

-- A constant expression is one constant. A valid module has no other here, so what another one stands for doesn't
-- matter.
abbrev pub constant_expression : Code → Option Value
constant_expression end = None
constant_expression (next i end) = constant i
constant_expression (next i (next j c)) = None

abbrev pub first_value : Global → Value
first_value g = unwrap_or (constant_expression g.init) (zero_of g.kind)

abbrev pub offset_of : Code → ℕ
offset_of c = bits_of (unwrap_or (constant_expression c) (I32 0))

-- a table of its minimum size, with no function in it
abbrev pub first_table : Option Limits → List (Option ℕ)
first_table None = []
first_table (Some limits) = replicate limits.min None

-- a memory of its minimum size, full of zeros
abbrev pub first_memory : Option Limits → Memory
first_memory None = record { pages = 0; byte_at = λ address. 0 }
first_memory (Some limits) = record { pages = limits.min; byte_at = λ address. 0 }

-- A segment fits where its end is at most the end of the table or of the memory. Offsets are unsigned, and the sum
-- doesn't wrap: an empty segment at the very end fits, and one past it doesn't.
abbrev pub element_fits : List (Option ℕ) → ElementSegment → Bool
element_fits table e = nat_le (offset_of e.offset + length e.funcs) (length table)

abbrev pub segment_fits : Memory → DataSegment → Bool
segment_fits memory s = is_inside memory (offset_of s.offset) (length s.bytes)

-- a segment written
abbrev pub with_element : List (Option ℕ) → ElementSegment → List (Option ℕ)
with_element table e = take (offset_of e.offset) table ++ map (λ f. Some f) e.funcs
    ++ drop (offset_of e.offset + length e.funcs) table

abbrev pub with_segment : Memory → DataSegment → Memory
with_segment memory s = record {
  pages = memory.pages;
  byte_at = λ address. if is_among (length s.bytes) (offset_of s.offset) address then get_or s.bytes
      (address - offset_of s.offset) 0 else memory.byte_at address;
}

-- all segments written, in order
abbrev pub with_elements : List (Option ℕ) → List ElementSegment → List (Option ℕ)
with_elements table [] = table
with_elements table (e ∷ es) = with_elements (with_element table e) es

abbrev pub with_segments : Memory → List DataSegment → Memory
with_segments memory [] = memory
with_segments memory (s ∷ ss) = with_segments (with_segment memory s) ss

-- the first segment that doesn't fit: an element segment or a data segment, counted from 0
pub data Unfit : Type 0 where
  element : (k : ℕ) → Unfit
  segment : (k : ℕ) → Unfit

abbrev pub unless : Option ℕ → (ℕ → Unfit) → Result Store Unfit → Result Store Unfit
unless None fault other = other
unless (Some k) fault other = Err (fault k)

-- The instance that a module begins as. First every element segment and then every data segment is tested, and where
-- one doesn't fit nothing is written; then all of them are written.
abbrev pub instantiated : PureModule → Result Store Unfit
instantiated m =
    unless (position (λ e. not (element_fits (first_table m.table) e)) m.elements) element
    (unless (position (λ s. not (segment_fits (first_memory m.memory) s)) m.segments) segment
    (Ok record {
      globals = map first_value m.globals;
      table = with_elements (first_table m.table) m.elements;
      memory = with_segments (first_memory m.memory) m.segments;
    }))

abbrev pub on_found : {A : Type 0} → Option A → (A → End) → End
on_found None go = lost
on_found (Some x) go = go x

-- A function's body in its frame, with the arguments and then zeros as its locals, the first argument first. A branch
-- past the blocks of the body goes to the label round it.
abbrev pub invocation : FuncType → Function → List Value → Sequence
invocation t f args =
    first (frame (length t.results) (args ++ map zero_of f.locals)
    (first (label (length t.results) end (code_then f.body nothing)) nothing)) nothing

-- whether the arguments have these types, each its own, and are as many
abbrev pub are_arguments : List ValType → List Value → Bool
are_arguments params args = same_value_types params (map type_of_value args)

abbrev pub where_they_fit : Bool → End → End
where_they_fit true go = go
where_they_fit false go = lost

-- The invocation of function f with these arguments and n units. It spends nothing itself. Where the arguments differ
-- from the function's parameters, in number or in a type, the standard's invocation fails, and no rule applies: it is
-- lost.
abbrev pub invoked : PureModule → Store → ℕ → List Value → ℕ → End
invoked m st f args n = on_found (slice_get m.funcs f) λ f. on_found (slice_get m.types f.kind) λ t.
    where_they_fit (are_arguments t.params args) (execution m n st (invocation t f args))
