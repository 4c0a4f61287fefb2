-- A valid module never gets lost (standard: Appendix, Soundness).
use Rattle.std.specs.Prelude.{◌≡◌, ℕ, List, [], ◌∷◌, Some, Ok, map}
use Rattle.std.specs.List.{AllByRecursion}
use Rattle.mw_wasm.specs.declared.values.ValType.{ValType}
use Rattle.mw_wasm.specs.declared.values.Value.{Value}
use Rattle.mw_wasm.specs.declared.modules.FuncType.{FuncType}
use Rattle.mw_wasm.specs.NumericTypes.{type_of_value}
use Rattle.mw_wasm.specs.Syntax.{Function, PureModule}
use Rattle.mw_wasm.specs.Store.{Store}
use Rattle.mw_wasm.specs.Execution.{End, ended, trapped, spent, lost}
use Rattle.mw_wasm.specs.Redex.{Config, Next, moves, goes, spends, ends, traps, stuck, reduce, run}
use Rattle.mw_wasm.specs.Instances.{exported, instantiated, invoked}
use Rattle.mw_wasm.specs.Validity.{IsValid}
use Rattle.mw_wasm.specs.StateTypes.{StoreIsTyped, OperandsAreTyped, ConfigIsTyped}
use Rattle.mw_wasm.specs.Invocations.{IsFunctionOf}

-- what one rule makes of a state is typed again, and gives values of these types where all is done; some rule applies
abbrev pub NextIsTyped : PureModule → List ValType → Next → Type 0
NextIsTyped m final (moves c) = ConfigIsTyped m final c
NextIsTyped m final (goes c) = ConfigIsTyped m final c
NextIsTyped m final (spends c) = ConfigIsTyped m final c
NextIsTyped m final (ends st vs) = StoreIsTyped m st × OperandsAreTyped vs final
NextIsTyped m final (traps t) = Unit {0}
NextIsTyped m final stuck = ⊥

abbrev pub ProgressAndPreservation : Type 0
ProgressAndPreservation = (m : PureModule) → IsValid m → (final : List ValType) (c : Config) → ConfigIsTyped m final c
    → NextIsTyped m final (reduce m c)

-- with values of these types and a typed store, by a trap with a typed store, or where no unit is left; but never lost
abbrev pub EndIsTyped : PureModule → List ValType → End → Type 0
EndIsTyped m final (ended st vs left) = StoreIsTyped m st × OperandsAreTyped vs final
EndIsTyped m final (trapped t st) = StoreIsTyped m st
EndIsTyped m final spent = Unit {0}
EndIsTyped m final lost = ⊥

abbrev pub RunsAreSound : Type 0
RunsAreSound = (m : PureModule) → IsValid m → (final : List ValType) (n : ℕ) (c : Config) → ConfigIsTyped m final c
    → EndIsTyped m final (run m n c)

abbrev pub InvocationsAreSound : Type 0
InvocationsAreSound =
    (m : PureModule) → IsValid m → (st : Store) → StoreIsTyped m st → (f : ℕ) (args : List Value) (n : ℕ) (g : Function)
    (t : FuncType)
    → IsFunctionOf m f g t → map type_of_value args ≡ t.params → EndIsTyped m t.results (invoked m st f args n)

-- a valid module's instance begins with a typed store
abbrev pub InstancesAreTyped : Type 0
InstancesAreTyped = (m : PureModule) → IsValid m → (st : Store) → instantiated m ≡ Ok st → StoreIsTyped m st

-- an invocation: its function, arguments and units
pub record Invocation : Type 0 where
  pub function : ℕ
  pub args : List Value
  pub units : ℕ

-- it is one of an exported function, with arguments of its parameters' types
pub record IsInvocationOf (m : PureModule) (i : Invocation) : Type 0 where
  pub name : List ℕ
  pub is_exported : exported m name ≡ Some i.function
  pub body : Function
  pub type : FuncType
  pub is_function : IsFunctionOf m i.function body type
  pub arguments : map type_of_value i.args ≡ type.params

-- what is said of the store after an invocation that ended or trapped
abbrev pub Onward : End → (Store → Type 0) → Type 0
Onward (ended st vs left) P = P st
Onward (trapped t st) P = P st
Onward spent P = Unit {0}
Onward lost P = ⊥

-- Invocations one after another, each on the store as the one before left it, up to the first that is spent: none is
-- lost.
abbrev pub NeverLost : PureModule → Store → List Invocation → Type 0
NeverLost m st [] = Unit {0}
NeverLost m st (i ∷ is) = Onward (invoked m st i.function i.args i.units) λ st. NeverLost m st is

abbrev pub ValidModulesAreNeverLost : Type 0
ValidModulesAreNeverLost = (m : PureModule) → IsValid m → (st : Store) → instantiated m ≡ Ok st → (is : List Invocation)
    → AllByRecursion (IsInvocationOf m) is → NeverLost m st is
