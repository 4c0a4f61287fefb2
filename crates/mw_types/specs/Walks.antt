-- A walk over the classes: sizes of what is done, and a path of classes of which each is above the next.
use Rattle.std.specs.Prelude.{ℕ, suc, ◌+◌, ◌≡◌, ◌≢◌, ◌<◌, ◌⊎◌, min, List, [], ◌∷◌, length, slice_index_or}
use Rattle.mw_types.specs.Types.{TypeExpression, Assignment, nodes, size}
use Rattle.mw_types.specs.Satisfying.{Means}
use Rattle.mw_types.specs.Stands.{Stands}
use Rattle.mw_types.specs.declared.state.State.{State}
use Rattle.mw_types.specs.declared.walk.Mark.{Mark}
use Rattle.mw_types.specs.declared.walk.Mark.TheVariants.{New, Open, Done}
use Rattle.mw_types.specs.declared.walk.Extent.{Extent}
use Rattle.mw_types.specs.declared.walk.Extent.TheVariants.{Size, Root}
use Rattle.mw_types.specs.declared.walk.Look.{Look}
use Rattle.mw_types.specs.declared.walk.Look.TheVariants.{Ready, Down}

-- a node stands for a type of n nodes, of at least n where n is 10,001
pub record Sized (s : State) (x n : ℕ) : Type 0 where
  pub type : (classifier : ℕ → ℕ) → TypeExpression
  pub stands : (classifier : ℕ → ℕ) → Stands s.parent.items s.shape.items classifier x (type classifier)
  pub count : (classifier : ℕ → ℕ) → n ≡ min (nodes (type classifier)) 10001

pub record Marked (s : State) (marks : List Mark) : Type 0 where
  pub count : length marks ≡ length s.parent.items
  pub done : (x n : ℕ) → slice_index_or marks x New ≡ Done n → Sized s x n

-- in each solution the first node's type is larger than the second's
abbrev pub Above : State → ℕ → ℕ → Type 0
Above s x y = (a : Assignment) → Means s a → size (a.ty y) < size (a.ty x)

pub record RootOf (s : State) (marks : List Mark) (x r : ℕ) : Type 0 where
  pub inside : r < length s.parent.items
  pub root : slice_index_or s.parent.items r 0 ≡ r
  pub undone : (n : ℕ) → slice_index_or marks r New ≢ Done n
  pub same : (a : Assignment) → Means s a → a.ty x ≡ a.ty r

abbrev pub Finds : State → List Mark → ℕ → Extent → Type 0
Finds s marks x (Size n) = Sized s x n
Finds s marks x (Root r) = RootOf s marks x r

-- a class below another that is not done
pub record Lower (s : State) (marks : List Mark) (x y : ℕ) : Type 0 where
  pub inside : y < length s.parent.items
  pub root : slice_index_or s.parent.items y 0 ≡ y
  pub undone : (n : ℕ) → slice_index_or marks y New ≢ Done n
  pub above : Above s x y

-- what a class over one node says, and over two
abbrev pub OverOne : State → List Mark → ℕ → Look → Type 0
OverOne s marks x (Ready n) = (k : ℕ) × Sized s x k × (n ≡ min (k + 1) 10001)
OverOne s marks x (Down y) = RootOf s marks x y

abbrev pub OverTwo : State → List Mark → ℕ → ℕ → Look → Type 0
OverTwo s marks x y (Ready n) = (k : ℕ) × (m : ℕ) × Sized s x k × Sized s y m × (n ≡ min (k + m + 1) 10001)
OverTwo s marks x y (Down z) = RootOf s marks x z ⊎ RootOf s marks y z

abbrev pub Looks : State → List Mark → ℕ → Look → Type 0
Looks s marks x (Ready n) = Sized s x n
Looks s marks x (Down y) = Lower s marks x y

-- in each solution the second's type is smaller than each of the list's
abbrev pub AllAbove : State → List ℕ → ℕ → Type 0
AllAbove s [] y = Unit {0}
AllAbove s (x ∷ xs) y = Above s x y × AllAbove s xs y

abbrev pub AllBelow : State → ℕ → List ℕ → Type 0
AllBelow s x [] = Unit {0}
AllBelow s x (y ∷ ys) = Above s x y × AllBelow s x ys

abbrev pub Falls : State → List ℕ → Type 0
Falls s [] = Unit {0}
Falls s (x ∷ xs) = AllBelow s x xs × Falls s xs

abbrev pub In : ℕ → List ℕ → Type 0
In x [] = ⊥
In x (y ∷ ys) = (x ≡ y) ⊎ In x ys

-- the walk: what is done has its size, and what is open is on the path, which falls
pub record Walk (s : State) (marks : List Mark) (path : List ℕ) : Type 0 where
  pub marked : Marked s marks
  pub roots : (x : ℕ) → In x path → (x < length s.parent.items) × (slice_index_or s.parent.items x 0 ≡ x)
  pub falls : Falls s path
  pub opens : (x : ℕ) → slice_index_or marks x New ≡ Open → In x path

abbrev pub fresh : List Mark → ℕ
fresh [] = 0
fresh (New ∷ xs) = suc (fresh xs)
fresh (Open ∷ xs) = fresh xs
fresh (Done n ∷ xs) = fresh xs

-- each node's size
pub record AllSized (s : State) (sizes : List ℕ) : Type 0 where
  pub count : length sizes ≡ length s.parent.items
  pub each : (i : ℕ) → i < length s.parent.items → Sized s i (slice_index_or sizes i 0)

pub record AllNew (count : ℕ) (marks : List Mark) : Type 0 where
  pub long : length marks ≡ count
  pub new : (x : ℕ) → slice_index_or marks x New ≡ New

-- the first nodes' sizes, where nothing is open
pub record SomeSized (s : State) (marks : List Mark) (sizes : List ℕ) (count : ℕ) : Type 0 where
  pub marked : Marked s marks
  pub shut : (x : ℕ) → slice_index_or marks x New ≢ Open
  pub long : length sizes ≡ count
  pub each : (i : ℕ) → i < count → Sized s i (slice_index_or sizes i 0)
