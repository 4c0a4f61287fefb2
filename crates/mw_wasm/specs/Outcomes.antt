-- The words of worked rows: what comes of an invocation, seen from outside.
use Rattle.std.specs.Prelude.{ℕ, List, [], ◌∷◌, None, map, Result, Ok, Err}
use Rattle.mw_wasm.specs.declared.values.Value.{Value}
use Rattle.mw_wasm.specs.declared.values.Value.TheVariants as value
use Rattle.mw_wasm.specs.declared.values.ValType.{ValType}
use Rattle.mw_wasm.specs.declared.values.Trap.{Trap}
use Rattle.mw_wasm.specs.Syntax.{Instruction, PureModule}
use Rattle.mw_wasm.specs.Store.{Store}
use Rattle.mw_wasm.specs.Execution as ends
use Rattle.mw_wasm.specs.Execution.{End}
use Rattle.mw_wasm.specs.Instances.{Unfit, instantiated, invoked}
use Rattle.mw_wasm.specs.ExampleModules.{code_of_list}

-- values, the last first, and the units left; or why there are none
pub data Outcome : Type 0 where
  gave : (vs : List Value) (left : ℕ) → Outcome
  trapped : (t : Trap) → Outcome
  spent : Outcome
  lost : Outcome
  no_instance : Outcome

abbrev pub outcome_of : End → Outcome
outcome_of (ends.ended st vs left) = gave vs left
outcome_of (ends.trapped t st) = trapped t
outcome_of ends.spent = spent
outcome_of ends.lost = lost

-- the invocation of function 0 on the instance that the module begins as
abbrev pub end_of : Result Store Unfit → PureModule → List Value → ℕ → End
end_of (Ok st) m args n = invoked m st 0 args n
end_of (Err k) m args n = ends.lost

abbrev pub outcome_on : Result Store Unfit → PureModule → List Value → ℕ → Outcome
outcome_on (Ok st) m args n = outcome_of (invoked m st 0 args n)
outcome_on (Err k) m args n = no_instance

abbrev pub outcome : PureModule → List Value → ℕ → Outcome
outcome m args n = outcome_on (instantiated m) m args n

-- with no units, one invocation for each list of arguments
abbrev pub outcomes : PureModule → List (List Value) → List Outcome
outcomes m rows = map (λ args. outcome m args 0) rows

-- one value and no units left
abbrev pub i32 : ℕ → Outcome
i32 n = gave (value.I32 n ∷ []) 0

abbrev pub i64 : ℕ → Outcome
i64 n = gave (value.I64 n ∷ []) 0

-- one function of these parameters, results and further locals, and nothing else
abbrev pub function_alone : List ValType → List ValType → List ValType → List Instruction → PureModule
function_alone params results locals is = record {
  types = record { params = params; results = results } ∷ [];
  funcs = record { kind = 0; locals = locals; body = code_of_list is } ∷ [];
  table = None;
  memory = None;
  globals = [];
  exports = [];
  elements = [];
  segments = [];
}
