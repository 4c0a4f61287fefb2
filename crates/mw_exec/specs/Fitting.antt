-- Whether segments fit, of the program's segments.
use Rattle.std.specs.Prelude.{◌≡◌, ℕ, ◌+◌, ◌*◌, nat_le, not, Bool, None, length, position}
use Rattle.mw_wasm.specs.declared.values.ValType.TheVariants.{I32}
use Rattle.mw_wasm.specs.declared.modules.Element.{Element}
use Rattle.mw_wasm.specs.declared.modules.Segment.{Segment}
use Rattle.mw_wasm.specs.declared.modules.Module.{Module}
use Rattle.mw_wasm.specs.Syntax.{Code}
use Rattle.mw_wasm.specs.Validity.{IsConstantOf}
use Rattle.mw_wasm.specs.Instances.{offset_of, first_table, first_memory}
use Rattle.mw_wasm.specs.Views.{code_of}

-- where a segment begins
abbrev pub offset_number : Code → ℕ
offset_number c = offset_of c

-- whether so many items from an offset on end inside a size
abbrev pub ends_in : ℕ → ℕ → ℕ → Bool
ends_in offset count size = nat_le (offset + count) size

-- an element segment begins at a constant
abbrev pub HasElementOffset : Element → Type 0
HasElementOffset e = IsConstantOf I32 (code_of e.offset)

-- so does a data segment
abbrev pub HasSegmentOffset : Segment → Type 0
HasSegmentOffset s = IsConstantOf I32 (code_of s.offset)

-- whether an element segment doesn't fit
abbrev pub element_test : ℕ → Element → Bool
element_test size e = not (ends_in (offset_number (code_of e.offset)) (length e.funcs) size)

-- whether a data segment doesn't fit
abbrev pub segment_test : ℕ → Segment → Bool
segment_test size s = not (ends_in (offset_number (code_of s.offset)) (length s.bytes) size)

-- all segments fit the table and the memory that the module begins with
pub record AllFit (wasm : Module) : Type 0 where
  pub elements : position (element_test (length (first_table wasm.table))) wasm.elements ≡ None
  pub segments : position (segment_test ((first_memory wasm.memory).pages * 65536)) wasm.segments ≡ None
