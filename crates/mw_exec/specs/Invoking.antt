-- Invocations of functions by their indices.
use Rattle.std.specs.Prelude.{ℕ, ◌≡◌, List, [], ◌∷◌, ◌++◌, Some, length, slice_get, map}
use Rattle.mw_wasm.specs.declared.modules.Func.{Func}
use Rattle.mw_wasm.specs.declared.modules.FuncType.{FuncType}
use Rattle.mw_wasm.specs.declared.modules.Module.{Module}
use Rattle.mw_wasm.specs.declared.values.Value.{Value}
use Rattle.mw_wasm.specs.NumericTypes.{type_of_value}
use Rattle.mw_wasm.specs.Syntax.{end}
use Rattle.mw_wasm.specs.Store.{zero_of}
use Rattle.mw_wasm.specs.Redex.{at, in_label, in_frame}
use Rattle.mw_wasm.specs.Views.{code_of}
use Rattle.mw_exec.specs.declared.held.Contents.{Contents}
use Rattle.mw_exec.specs.declared.state.State.{State}
use Rattle.mw_exec.specs.Views.{config_of, store_of, IsFormed}

-- the function of the index is there, and the arguments have its parameters' types
pub record CanRun (wasm : Module) (f : ℕ) (args : List Value) : Type 0 where
  pub function : Func
  pub type : FuncType
  pub is_function : slice_get wasm.funcs f ≡ Some function
  pub is_type : slice_get wasm.types function.kind ≡ Some type
  pub fit : map type_of_value args ≡ type.params

-- the state in which an invocation begins, whatever is held
pub record IsBeginning (g : Func) (t : FuncType) (args : List Value) (n : ℕ) (s : State) : Type 0 where
  pub formed : IsFormed s
  pub fuel : s.fuel ≡ n
  pub is : (h : Contents) → config_of h s ≡ at (store_of h) (args ++ map zero_of g.locals) [] (code_of g.body)
      (in_label (length t.results) end [] end ∷ in_frame (length t.results) [] [] end ∷ [])

-- the state in which an invocation of the function of an index begins, with arguments of its parameters' types
pub record IsInvocation (wasm : Module) (f : ℕ) (args : List Value) (n : ℕ) (s : State) : Type 0 where
  pub function : Func
  pub type : FuncType
  pub is_function : slice_get wasm.funcs f ≡ Some function
  pub is_type : slice_get wasm.types function.kind ≡ Some type
  pub fit : map type_of_value args ≡ type.params
  pub begins : IsBeginning function type args n s
