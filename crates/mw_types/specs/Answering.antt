-- From a state where nothing waits to the types that its nodes stand for.
use Rattle.std.specs.Prelude.{ℕ, ◌≡◌, ◌≤◌, ◌<◌, ◌⊎◌, List, [], length, slice_index_or}
use Rattle.mw_types.specs.Types.{TypeExpression, type_of, nodes}
use Rattle.mw_types.specs.Equations.{TypeEquation}
use Rattle.mw_types.specs.Forest.{Same, Leads}
use Rattle.mw_types.specs.Stands.{Stands}
use Rattle.mw_types.specs.Walks.{AllSized}
use Rattle.mw_types.specs.Judged.{Stated}
use Rattle.mw_types.specs.Solutions.{Solution}
use Rattle.mw_types.specs.declared.state.Shape.{Shape}
use Rattle.mw_types.specs.declared.state.Shape.TheVariants.{Free}
use Rattle.mw_types.specs.declared.state.State.{State}
use Rattle.mw_types.specs.declared.types.Ty.{Ty}
use Rattle.mw_types.specs.declared.types.Ty.TheVariants.{Int}

-- a state says what the equations say, nothing waits, and each node stands for a type, an unknown for a small one
pub record Ready (n m : ℕ) (es : List TypeEquation) (s : State) : Type 0 where
  pub stated : Stated n m es s
  pub empty : s.waiting.items ≡ []
  pub sizes : List ℕ
  pub all : AllSized s sizes
  pub small : (u : ℕ) → u < n → slice_index_or sizes u 0 ≤ 10000

-- a node, its representative and the representative's shape
pub record RootAt (s : State) (i r : ℕ) (h : Shape) : Type 0 where
  pub leads : Leads s.parent.items i r
  pub root : slice_index_or s.parent.items r 0 ≡ r
  pub shape : slice_index_or s.shape.items r Free ≡ h

-- the representatives of the first classifier unknowns
abbrev pub name_in : List ℕ → ℕ → ℕ
name_in names c = slice_index_or names c 0

pub record NamedTo (cs names : List ℕ) (count : ℕ) : Type 0 where
  pub long : length names ≡ count
  pub low : (c : ℕ) → c < count → name_in names c ≤ c
  pub one : (c : ℕ) → c < count → name_in names c ≡ name_in names (slice_index_or cs c 0)
  pub own : (a : ℕ → ℕ) → Same cs a → (c : ℕ) → c < count → a (name_in names c) ≡ a c

-- the representative of the next: itself, or that of its parent
abbrev pub IsName : List ℕ → List ℕ → ℕ → ℕ → Type 0
IsName cs names c r = ((slice_index_or cs c 0 ≡ c) × (r ≡ c))
    ⊎ ((slice_index_or cs c 0 < c) × (r ≡ name_in names (slice_index_or cs c 0)))

-- the node stands for a type
abbrev pub StandsFor : State → List ℕ → ℕ → TypeExpression → Type 0
StandsFor s names i t = Stands s.parent.items s.shape.items (name_in names) i t

-- .. whatever representatives of the classifier unknowns were taken
pub record StandsForOne (s : State) (i : ℕ) (t : TypeExpression) : Type 0 where
  pub names : List ℕ
  pub named : NamedTo s.classifier.items names (length s.classifier.items)
  pub stands : StandsFor s names i t

-- .. of at most so many nodes
abbrev pub HasRoom : State → List ℕ → ℕ → ℕ → Type 0
HasRoom s names i room = (t : TypeExpression) × StandsFor s names i t × (nodes t ≤ room)

-- the representatives of the first unknowns, and the types of those that are their own
pub record TreesTo (s : State) (names roots : List ℕ) (trees : List Ty) (count : ℕ) : Type 0 where
  pub root_count : length roots ≡ count
  pub tree_count : length trees ≡ count
  pub below : (i : ℕ) → i < count → slice_index_or roots i 0 ≤ i
  pub leads : (i : ℕ) → i < count → Leads s.parent.items i (slice_index_or roots i 0)
  pub rooted : (i : ℕ) → i < count → slice_index_or s.parent.items (slice_index_or roots i 0) 0 ≡ slice_index_or roots i
      0
  pub own : (i : ℕ) → i < count → slice_index_or s.parent.items i 0 ≡ i
      → StandsFor s names i (type_of (slice_index_or trees i Int))

-- each unknown's type is the one that it stands for
pub record Answers (n : ℕ) (s : State) (answer : Solution) : Type 0 where
  pub named : NamedTo s.classifier.items answer.classifiers (length s.classifier.items)
  pub long : length answer.types ≡ n
  pub each : (u : ℕ) → u < n → StandsFor s answer.classifiers u (type_of (slice_index_or answer.types u Int))
