-- Whether a segment ends inside a table or a memory of a size, whatever expression says where it begins.
use Rattle.std.specs.Prelude.{ℕ, ◌+◌, nat_le, Bool, length}
use Rattle.mw_wasm.specs.declared.modules.Element.{Element}
use Rattle.mw_wasm.specs.declared.modules.Segment.{Segment}
use Rattle.mw_wasm.specs.Instances.{offset_of}
use Rattle.mw_wasm.specs.Views.{code_of}

-- so many elements
abbrev pub element_ends_in : ℕ → Element → Bool
element_ends_in size e = nat_le (offset_of (code_of e.offset) + length e.funcs) size

-- so many bytes
abbrev pub segment_ends_in : ℕ → Segment → Bool
segment_ends_in size s = nat_le (offset_of (code_of s.offset) + length s.bytes) size
