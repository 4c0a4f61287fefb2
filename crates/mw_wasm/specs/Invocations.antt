-- What is proved of invocations, by their arguments.
use Rattle.std.specs.Prelude.{◌≡◌, ℕ, List, [], ◌∷◌, Some, None, map, slice_get}
use Rattle.mw_wasm.specs.declared.values.Value.{Value}
use Rattle.mw_wasm.specs.declared.values.Value.TheVariants as value
use Rattle.mw_wasm.specs.declared.values.ValType.TheVariants.{I32, I64}
use Rattle.mw_wasm.specs.declared.modules.FuncType.{FuncType}
use Rattle.mw_wasm.specs.declared.modules.Exported.TheVariants.{Func}
use Rattle.mw_wasm.specs.NumericTypes.{type_of_value}
use Rattle.mw_wasm.specs.Syntax.{Function, PureModule, const_i64, end, next}
use Rattle.mw_wasm.specs.Store.{Store}
use Rattle.mw_wasm.specs.Execution.{ended, lost, execution}
use Rattle.mw_wasm.specs.Instances.{exported, invocation, invoked}
use Rattle.mw_wasm.specs.ExampleModules.{init_name}
use Rattle.mw_wasm.specs.Validity.{IsValid}

-- this index is that of a function of this type
pub record IsFunctionOf (m : PureModule) (f : ℕ) (g : Function) (t : FuncType) : Type 0 where
  pub is_function : slice_get m.funcs f ≡ Some g
  pub is_type : slice_get m.types g.kind ≡ Some t

-- with arguments of its parameters' types, an invocation is the execution of the function's body in its frame
abbrev pub ArgumentsAreTaken : Type 0
ArgumentsAreTaken =
    (m : PureModule) (st : Store) (f : ℕ) (args : List Value) (n : ℕ) (g : Function) (t : FuncType)
    → IsFunctionOf m f g t
    → map type_of_value args ≡ t.params → invoked m st f args n ≡ execution m n st (invocation t g args)

-- with any others it is lost
abbrev pub OtherArgumentsAreLost : Type 0
OtherArgumentsAreLost =
    (m : PureModule) (st : Store) (f : ℕ) (args : List Value) (n : ℕ) (g : Function) (t : FuncType)
    → IsFunctionOf m f g t
    → ¬ (map type_of_value args ≡ t.params) → invoked m st f args n ≡ lost

-- a valid module whose init has two parameters and gives 7
abbrev pub seven_of_two : PureModule
seven_of_two = record {
  types = record { params = I64 ∷ I32 ∷ []; results = I64 ∷ [] } ∷ [];
  funcs = record { kind = 0; locals = []; body = next (const_i64 7) end } ∷ [];
  table = None;
  memory = None;
  globals = [];
  exports = record { name = init_name; what = Func 0 } ∷ [];
  elements = [];
  segments = [];
}

-- It is valid, and its init answers 7 where it has both arguments. Invoked without arguments, with one, with both the
-- other way round, or with one too many, it is lost.
pub record TwoParametersWantTwo : Type 0 where
  pub valid : IsValid seven_of_two
  pub is_init : exported seven_of_two init_name ≡ Some 0
  pub with_both : (st : Store) (n : ℕ) → invoked seven_of_two st 0 (value.I64 1 ∷ value.I32 2 ∷ []) n
      ≡ ended st (value.I64 7 ∷ []) n
  pub with_none : (st : Store) (n : ℕ) → invoked seven_of_two st 0 [] n ≡ lost
  pub with_one : (st : Store) (n : ℕ) → invoked seven_of_two st 0 (value.I64 1 ∷ []) n ≡ lost
  pub other_way_round : (st : Store) (n : ℕ) → invoked seven_of_two st 0 (value.I32 2 ∷ value.I64 1 ∷ []) n ≡ lost
  pub with_three : (st : Store) (n : ℕ) → invoked seven_of_two st 0 (value.I64 1 ∷ value.I32 2 ∷ value.I32 3 ∷ []) n
      ≡ lost
