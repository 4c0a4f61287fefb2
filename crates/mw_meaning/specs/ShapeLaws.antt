-- Modules and the kernel types that they are run at.
use Rattle.std.specs.Prelude.{ℕ, ◌≡◌, length, [], ◌∷◌, Some, Ok, codes}
use Rattle.mw_term.specs.Terms.{Expression, Value, KernelType, GroundType, to}
use Rattle.mw_term.specs.Typable.{HasKernelType}
use Rattle.mw_wasm.specs.declared.values.Value.TheVariants.{I64}
use Rattle.mw_wasm.specs.Syntax.{PureModule}
use Rattle.mw_wasm.specs.Store.{Store}
use Rattle.mw_wasm.specs.Execution.{ended}
use Rattle.mw_wasm.specs.Instances.{exported, instantiated, invoked}
use Rattle.mw_meaning.specs.StandingFor.{StandsFor, leaves}
use Rattle.mw_meaning.specs.GroundValues.{IsArgument}
use Rattle.mw_meaning.specs.Shapes.{leaf_count, IsWordOf, IsStrayEnd, IsStray}
use Rattle.mw_meaning.specs.Plays.{HasPlayed}

-- A module that stands for typed code gives what a kernel of its type gives.
abbrev pub StandingIsNotStray : Type 0
StandingIsNotStray = (m : PureModule) (c : Expression) (k : KernelType) → StandsFor m c k → HasKernelType c k
    → IsStray m k → ⊥

-- An argument has as many leaves as its type, so beside the function's word `call` is given one for each other
-- parameter.
abbrev pub LeavesAreCounted : Type 0
LeavesAreCounted = (s : GroundType) (v : Value) → IsArgument s v → length (leaves v) ≡ leaf_count s

-- An `init` of a module for functions that ended with a word is a play, with any type of arguments.
abbrev pub PlaysBegin : Type 0
PlaysBegin = (m : PureModule) (s : GroundType) (f g r units left : ℕ) (first after : Store)
    → instantiated m ≡ Ok first → exported m (codes "init") ≡ Some f → exported m (codes "call") ≡ Some g
    → invoked m first f [] units ≡ ended after (I64 r ∷ []) left → HasPlayed m s r after

-- One call more that ends with a word is a play again, and one that ends as no kernel does makes the module stray.
abbrev pub PlaysGoOn : Type 0
PlaysGoOn = (m : PureModule) (s : GroundType) (r g units n left : ℕ) (last after : Store) (v : Value)
    → HasPlayed m s r last → exported m (codes "call") ≡ Some g → IsArgument s v
    → invoked m last g (I64 r ∷ leaves v) units ≡ ended after (I64 n ∷ []) left → HasPlayed m s r after

abbrev pub PlaysEndStray : Type 0
PlaysEndStray = (m : PureModule) (s t : GroundType) (r g units : ℕ) (last : Store) (v : Value)
    → HasPlayed m s r last → exported m (codes "call") ≡ Some g → IsArgument s v
    → IsStrayEnd (IsWordOf t) (invoked m last g (I64 r ∷ leaves v) units) → IsStray m (to s t)
