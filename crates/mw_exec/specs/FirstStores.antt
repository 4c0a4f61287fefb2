-- What an instance begins with, of the program's values.
use Rattle.std.specs.Prelude.{◌≡◌, ℕ, ◌-◌, if◌then◌else◌, List, length, map, get_or}
use Rattle.mw_wasm.specs.declared.values.Value.{Value}
use Rattle.mw_wasm.specs.declared.modules.GlobalVar.{GlobalVar}
use Rattle.mw_wasm.specs.declared.modules.Segment.{Segment}
use Rattle.mw_wasm.specs.Store.{is_among}
use Rattle.mw_wasm.specs.Instances.{first_value, with_segments}
use Rattle.mw_wasm.specs.Validity.{IsConstantOf}
use Rattle.mw_wasm.specs.Views.{code_of, global_of, segment_of}
use Rattle.mw_exec.specs.Views.{memory_of}

-- a global begins with a constant of its type
abbrev pub HasFirstValue : GlobalVar → Type 0
HasFirstValue g = IsConstantOf g.kind (code_of g.init)

-- the value that a global begins with
abbrev pub value_of_global : GlobalVar → Value
value_of_global g = first_value (global_of g)

-- the bytes of a segment are written from a place on, and past the end of what is stored there are zeros
pub record IsPlaced (at : ℕ) (segment old new : List ℕ) : Type 0 where
  pub byte : (a : ℕ) → get_or new a 0
      ≡ (if is_among (length segment) at a then get_or segment (a - at) 0 else get_or old a 0)

-- segments are written, one after another
pub record ArePlaced (segments : List Segment) (old new : List ℕ) : Type 0 where
  pub memory : (pages : ℕ) → with_segments (memory_of pages old) (map segment_of segments) ≡ memory_of pages new
