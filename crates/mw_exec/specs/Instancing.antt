-- What instances answer, in the words of the standard's instantiation and invocation.
use Rattle.std.specs.Prelude.{ℕ, ◌≡◌, List, [], ◌∷◌, if◌then◌else◌, Option, Some, None, Ok, Err, slice_get, map}
use Rattle.mw_wasm.specs.declared.modules.Func.{Func}
use Rattle.mw_wasm.specs.declared.modules.FuncType.{FuncType}
use Rattle.mw_wasm.specs.declared.modules.Module.{Module}
use Rattle.mw_wasm.specs.declared.values.Value.{Value}
use Rattle.mw_wasm.specs.NumericTypes.{type_of_value}
use Rattle.mw_wasm.specs.Syntax.{PureModule}
use Rattle.mw_wasm.specs.Store.{Memory, Store, is_inside, read_bytes}
use Rattle.mw_wasm.specs.Execution.{End, ended, trapped, spent}
use Rattle.mw_wasm.specs.Instances.{element, segment, first_value, first_table, first_memory, with_elements}
use Rattle.mw_wasm.specs.Instances.{with_segments, instantiated, exported, invoked}
use Rattle.mw_wasm.specs.Views.{module_of}
use Rattle.mw_exec.specs.declared.ended.Ended.{Ended}
use Rattle.mw_exec.specs.declared.ended.Ended.TheVariants as ends
use Rattle.mw_exec.specs.declared.ended.InstanceFault.{InstanceFault}
use Rattle.mw_exec.specs.declared.ended.InstanceFault.TheVariants as fault

-- what a module's instance begins with where all its segments fit
abbrev pub first_store : PureModule → Store
first_store m = record {
  globals = map first_value m.globals;
  table = with_elements (first_table m.table) m.elements;
  memory = with_segments (first_memory m.memory) m.segments;
}

-- the module begins as an instance with this store
abbrev pub BeginsAs : Module → Store → Type 0
BeginsAs wasm st = instantiated (module_of wasm) ≡ Ok st

-- the function g, of type t, is the first that is exported under the name
pub record IsFunctionAt (wasm : Module) (name : List ℕ) (g : Func) (t : FuncType) : Type 0 where
  pub index : ℕ
  pub is_exported : exported (module_of wasm) name ≡ Some index
  pub is_function : slice_get wasm.funcs index ≡ Some g
  pub is_type : slice_get wasm.types g.kind ≡ Some t

-- the first of two, where it is there
abbrev pub found_or : Option ℕ → Option ℕ → Option ℕ
found_or None other = other
found_or (Some f) other = Some f

-- a function is exported under the name, and the arguments have its parameters' types
pub record CanInvoke (wasm : Module) (name : List ℕ) (args : List Value) : Type 0 where
  pub function : Func
  pub type : FuncType
  pub there : IsFunctionAt wasm name function type
  pub fit : map type_of_value args ≡ type.params

-- the values that a function gave, the last first
abbrev pub values_of : Option Value → List Value
values_of None = []
values_of (Some v) = v ∷ []

-- an answer is how the invocation ends: the results and the units left, or a trap, and in both cases what the instance
-- holds then; or no unit where one more is needed
abbrev pub EndsAs : Ended → Store → End → Type 0
EndsAs (ends.Ended v left) after (ended st vs units) = (values_of v ≡ vs) × (left ≡ units) × (after ≡ st)
EndsAs (ends.Trapped t) after (trapped u st) = (t ≡ u) × (after ≡ st)
EndsAs ends.Spent after spent = Unit {0}
EndsAs _ after _ = ⊥

-- The answer is how the invocation of the function that is exported under the name ends, on what the instance held
-- before; and afterwards it holds what that left.
abbrev pub AnswersInvocation : Module → List ℕ → List Value → ℕ → Store → Ended → Store → Type 0
AnswersInvocation wasm name args fuel before end after = (f : ℕ) → exported (module_of wasm) name ≡ Some f
    → EndsAs end after (invoked (module_of wasm) before f args fuel)

-- why a module has no instance; want of memory says nothing
abbrev pub Refuses : InstanceFault → Module → Type 0
Refuses (fault.Element k) wasm = instantiated (module_of wasm) ≡ Err (element k)
Refuses (fault.Segment k) wasm = instantiated (module_of wasm) ≡ Err (segment k)
Refuses (fault.Memory e) wasm = Unit {0}

-- the number in the eight bytes from an address on, the lowest first, where all of them are below the memory's length
abbrev pub word_at : ℕ → Memory → Option ℕ
word_at at m = if is_inside m at 8 then Some (read_bytes 8 at m) else None
