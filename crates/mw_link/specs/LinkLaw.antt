-- What is claimed of the linked module.
use Rattle.std.specs.Prelude.{ℕ, ◌≡◌, ◌≤◌, List, [], ◌∷◌, length, Some, Ok}
use Rattle.std.specs.List.{AllByRecursion}
use Rattle.mw_term.specs.Terms.{KernelType, size, depth_of, of_ground, to}
use Rattle.mw_term.specs.Closed.{IsClosed}
use Rattle.mw_term.specs.Limits.{kernel_nodes, LiteralsFit}
use Rattle.mw_term.specs.Typable.{HasKernelType}
use Rattle.mw_meaning.specs.KernelMeaning.{kernel_meaning}
use Rattle.mw_meaning.specs.StandingFor.{AnswersAs, Call, AreCalls, CallsAfter}
use Rattle.mw_wasm.specs.declared.values.Value.{Value}
use Rattle.mw_wasm.specs.Syntax.{PureModule}
use Rattle.mw_wasm.specs.Store.{Store}
use Rattle.mw_wasm.specs.Execution.{ended}
use Rattle.mw_wasm.specs.Instances.{exported, instantiated, invoked}
use Rattle.mw_wasm.specs.Validity.{IsValid}
use Rattle.mw_wasm.specs.Profile.{IsWithinProfile, IsPrintable}
use Rattle.mw_wasm.specs.BinaryModules.{Spells, wasm_module}
use Rattle.mw_gen.specs.EmissionLaw.{SpelledShort}
use Rattle.mw_link.specs.Linked.{Kernel, count, init_name, call_name, linked}

-- closed code within the limits of kernels, at a type of at most 10,000 nodes, and a name of at most 64 printable bytes
pub record IsLinkable (p : Kernel) : Type 0 where
  pub closed : IsClosed p.code
  pub few : size p.code ≤ 20000
  pub flat : depth_of p.code ≤ 400
  pub nodes : kernel_nodes p.kind ≤ 10000
  pub short : length p.name ≤ 64
  pub printable : AllByRecursion IsPrintable p.name

-- no two kernels have one name
abbrev pub KernelsDiffer : List Kernel → Type 0
KernelsDiffer [] = Unit {0}
KernelsDiffer (p ∷ ps) = AllByRecursion (λ (other : Kernel). other.name ≡ p.name → ⊥) ps × KernelsDiffer ps

-- at most 100 kernels, of at most 100,000 functions together
pub record AreLinkable (ps : List Kernel) : Type 0 where
  pub all : AllByRecursion IsLinkable ps
  pub differ : KernelsDiffer ps
  pub few : length ps ≤ 100
  pub together : count ps ≤ 100_000

-- the literals of all kernels have 64 bits
abbrev pub LiteralsOfAllFit : List Kernel → Type 0
LiteralsOfAllFit ps = AllByRecursion (λ (p : Kernel). LiteralsFit p.code) ps

-- A store that an instance of the module may have: as it begins, and after each invocation that ended with values,
-- whichever function it was of and with whichever arguments.
pub data Reached (m : PureModule) : Store → Type 0 where
  begun : {st : Store} → instantiated m ≡ Ok st → Reached m st
  gone : {st after : Store} (f : ℕ) (args vs : List Value) (n left : ℕ) → Reached m st
      → invoked m st f args n ≡ ended after vs left → Reached m after

module _ (m : PureModule) (p : Kernel) (st : Store) where
  -- a kernel of a function type has `call` under its name, and calls with the result of `init` answer as the calls of
  -- the kept function do
  abbrev pub CallsMean : KernelType → (init : ℕ) → Type 0
  CallsMean (of_ground t) init = Unit {0}
  CallsMean (to s t) init = (g : ℕ) × (exported m (call_name p.name) ≡ Some g)
      × ((n : ℕ) (calls : List Call) → AreCalls s calls → CallsAfter m g (kernel_meaning n 0 p.code)
      (invoked m st init [] n) calls)

  -- from this store on, the kernel's `init` answers as its code does, and then each list of its calls
  pub record MeansKernel : Type 0 where
    pub init : ℕ
    pub is_init : exported m (init_name p.name) ≡ Some init
    pub run : (n : ℕ) → AnswersAs (kernel_meaning n 0 p.code) (invoked m st init [] n)
    pub calls : CallsMean p.kind init

-- Each kernel that has its type is meant by the module, whatever was invoked before.
pub record MeansAll (m : PureModule) (ps : List Kernel) : Type 0 where
  pub store : Store
  pub has_instance : instantiated m ≡ Ok store
  pub means : (st : Store) → Reached m st → AllByRecursion (λ (p : Kernel). HasKernelType p.code p.kind
      → MeansKernel m p st) ps

-- The bytes spell the module that the kernels are linked to. It is valid, within the profile, and means each of them.
pub record SpellLinked (ps : List Kernel) (bytes : List ℕ) : Type 0 where
  pub spelled : Spells bytes (linked ps)
  pub valid : IsValid (linked ps)
  pub profile : IsWithinProfile (linked ps)
  pub means : MeansAll (linked ps) ps

-- the linked module
abbrev pub LinkedIsValid : Type 0
LinkedIsValid = (ps : List Kernel) → AreLinkable ps → LiteralsOfAllFit ps → IsValid (linked ps)

abbrev pub LinkedMeansAll : Type 0
LinkedMeansAll = (ps : List Kernel) → AreLinkable ps → LiteralsOfAllFit ps → MeansAll (linked ps) ps

abbrev pub LinkedIsWithinProfile : Type 0
LinkedIsWithinProfile = (ps : List Kernel) → AreLinkable ps → LiteralsOfAllFit ps → IsWithinProfile (linked ps)

-- fewer than 2^32 bytes spell it
abbrev pub LinkedIsSpelled : Type 0
LinkedIsSpelled =
    (ps : List Kernel) → AreLinkable ps → LiteralsOfAllFit ps → SpelledShort (wasm_module (linked ps))
