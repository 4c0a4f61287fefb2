-- Typable programs, and the values that top-level names have in their evaluation.
use Rattle.std.specs.Prelude.{ℕ, zero, suc, ◌≡◌, ◌⊎◌, List, [], ◌∷◌, Some, slice_get}
use Rattle.mw_term.specs.Terms.{Expression, Value, KernelType, code}
use Rattle.mw_term.specs.Closed.{IsClosed, IsCode}
use Rattle.mw_term.specs.Programs.{Definition, value as defines, kernel, PureProgram, IsSyntacticValue}
use Rattle.mw_term.specs.Programs.{value_of_definition}
use Rattle.mw_term.specs.Types.{TermType, live, under, closed_type, ground_type, kernel_type}
use Rattle.mw_term.specs.Typing.{TopLevel, let_item, kernel_item, out_of_scope, Typed}

-- the names that item i sees: the lets before it
abbrev pub seen_by_item : List Definition → ℕ → List TopLevel
seen_by_item [] i = []
seen_by_item (d ∷ items) zero = []
seen_by_item (defines e ∷ items) (suc i) = let_item e ∷ seen_by_item items i
seen_by_item (kernel k e ∷ items) (suc i) = out_of_scope ∷ seen_by_item items i

-- the names that main sees: all lets and kernels
abbrev pub seen_by_main : List Definition → List TopLevel
seen_by_main [] = []
seen_by_main (defines e ∷ items) = let_item e ∷ seen_by_main items
seen_by_main (kernel k e ∷ items) = kernel_item k ∷ seen_by_main items

-- the names that some item or main sees
abbrev pub AreSeenIn : PureProgram → List TopLevel → Type 0
AreSeenIn p tops = ((i : ℕ) × (tops ≡ seen_by_item p.items i)) ⊎ (tops ≡ seen_by_main p.items)

-- an item that sees these names has a type: a let is a syntactic value with some type, a kernel is closed code of its
-- kernel type
abbrev pub IsTypableItem : List TopLevel → Definition → Type 0
IsTypableItem tops (defines e) = IsSyntacticValue e × (t : TermType) × Typed tops [] live e t
IsTypableItem tops (kernel k e) = Typed tops [] live e (closed_type (kernel_type k))

-- each item has a type where it stands, and main has its ground type
pub record Typable (p : PureProgram) : Type 0 where
  pub items : (i : ℕ) (d : Definition) → slice_get p.items i ≡ Some d → IsTypableItem (seen_by_item p.items i) d
  pub body : Typed (seen_by_main p.items) [] live p.body (ground_type p.result)

-- closed code that has the kernel type in the empty environment, whatever top-level names there are
pub record HasKernelType (c : Expression) (k : KernelType) : Type 0 where
  pub is_code : IsCode c
  pub closed : IsClosed c
  pub typed : Typed [] [] (under 0) c (kernel_type k)

-- the value of a name: a let's is what its definition is, a kernel's is closed code of its kernel type
abbrev pub IsValueOf : TopLevel → Value → Type 0
IsValueOf (let_item e) v = v ≡ value_of_definition e
IsValueOf (kernel_item k) v = (c : Expression) × (v ≡ code c) × HasKernelType c k
IsValueOf out_of_scope v = Unit {0}

-- each name in scope has its value, at its place in the list of values
abbrev pub AreValuesOf : List TopLevel → List Value → Type 0
AreValuesOf [] globals = Unit {0}
AreValuesOf (x ∷ tops) [] = ⊥
AreValuesOf (x ∷ tops) (v ∷ globals) = IsValueOf x v × AreValuesOf tops globals
