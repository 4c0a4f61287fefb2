-- What contracts see of kept functions.
use Rattle.std.specs.Prelude.{ℕ, ◌++◌, Bool, List, [], ◌∷◌, map, Option, IsSome, Result, Ok}
use Rattle.mw_term.specs.Terms.{Expression, KernelType, expression_of, kernel_type_of}
use Rattle.mw_term.specs.declared.term.KType.{KType}
use Rattle.mw_term.specs.declared.term.Term.{Term}
use Rattle.mw_meaning.specs.declared.mode.Mode.{Mode}
use Rattle.mw_meaning.specs.Simplification.{in_mode}
use Rattle.mw_meaning.specs.StagedMeaning.{Runs}
use Rattle.mw_meaning.specs.StandingFor.{StandsFor}
use Rattle.mw_wasm.specs.declared.modules.Module.{Module}
use Rattle.mw_wasm.specs.Views.{module_of}
use Rattle.mw_machine.specs.declared.kernels.Ran.{Ran}
use Rattle.mw_machine.specs.declared.kernels.Ran.TheVariants as ran
use Rattle.mw_machine.specs.declared.kernels.KernelFault.{KernelFault}

-- A kept function: the code as it was built and its type, its module, and the record that this was loaded from, or none
-- where it is the emission of what was run.
pub record Kept : Type 0 where
  pub code : Term
  pub kind : KType
  pub wasm : Module
  pub loaded : Option ℕ

abbrev pub kept_as : Term → KType → Module → Option ℕ → Kept
kept_as code kind wasm loaded = record { code = code; kind = kind; wasm = wasm; loaded = loaded }

-- how code is run, the kept functions, and whether they are stopped
pub record FunctionState : Type 0 where
  pub mode : Mode
  pub functions : List Kept
  pub stopped : Bool

-- the run that gave a kept function
abbrev pub run_of_kept : Kept → Expression × KernelType
run_of_kept f = (expression_of f.code, kernel_type_of f.kind)

-- the runs that gave the kept functions
abbrev pub functions_of : FunctionState → Runs
functions_of state = map run_of_kept state.functions

-- a kept function's module stands for what was run, where it was loaded
abbrev pub MeansItsCode : Mode → Kept → Type 0
MeansItsCode mode f =
    IsSome f.loaded → StandsFor (module_of f.wasm) (in_mode mode (run_of_kept f).0) (run_of_kept f).1

-- after a run that answered a function, that one is last
abbrev pub with_function : Result Ran KernelFault → Kept → List Kept → List Kept
with_function (Ok (ran.Function which left)) f functions = functions ++ f ∷ []
with_function _ f functions = functions
