-- What a state says of an assignment to its nodes.
use Rattle.std.specs.Prelude.{ℕ, ◌+◌, ◌*◌, ◌≡◌, ◌≢◌, ◌<◌, ◌≤◌, List, [], ◌∷◌, length, slice_index_or, slice_set}
use Rattle.mw_term.specs.Types.{TermType, int_type, bool_type, pair_type, function_type, code_type, closed_type}
use Rattle.mw_types.specs.Types.{Assignment}
use Rattle.mw_types.specs.Forest.{Low, Same}
use Rattle.mw_types.specs.declared.state.Shape.{Shape}
use Rattle.mw_types.specs.declared.state.Shape.TheVariants.{Free, Int, Bool, Pair, Arrow, Code, Closed}
use Rattle.mw_types.specs.declared.state.Pending.{Pending}
use Rattle.mw_types.specs.declared.state.State.{State}
use Rattle.mw_types.specs.declared.state.Met.{Met}
use Rattle.mw_types.specs.declared.state.Met.TheVariants.{Clash, Keep, One, Two, Classes}

-- a type has the shape, where the nodes below have theirs
abbrev pub Meets : Shape → TermType → Assignment → Type 0
Meets Free g a = Unit {0}
Meets Int g a = g ≡ int_type
Meets Bool g a = g ≡ bool_type
Meets (Pair l r) g a = g ≡ pair_type (a.ty l) (a.ty r)
Meets (Arrow l r) g a = g ≡ function_type (a.ty l) (a.ty r)
Meets (Code c t) g a = g ≡ code_type (a.classifier c) (a.ty t)
Meets (Closed t) g a = g ≡ closed_type (a.ty t)

-- the shape that is kept
abbrev pub kept : Met → Shape
kept Clash = Free
kept (Keep h) = h
kept (One h w) = h
kept (Two h w x) = h
kept (Classes h c d w) = h

-- what else is to be one
abbrev pub Extra : Met → Assignment → Type 0
Extra Clash a = ⊥
Extra (Keep h) a = Unit {0}
Extra (One h w) a = a.ty w.left ≡ a.ty w.right
Extra (Two h w x) a = (a.ty w.left ≡ a.ty w.right) × (a.ty x.left ≡ a.ty x.right)
Extra (Classes h c d w) a = (a.ty w.left ≡ a.ty w.right) × (a.classifier c ≡ a.classifier d)

-- one type of both shapes means the kept shape and what else is to be one
abbrev pub Meeting : Shape → Shape → Met → Type 0
Meeting x y m = (g : TermType) (a : Assignment) → (Meets x g a → Meets y g a → Meets (kept m) g a × Extra m a)
    × (Meets (kept m) g a → Extra m a → Meets x g a × Meets y g a)

abbrev pub Waits : List Pending → Assignment → Type 0
Waits [] a = Unit {0}
Waits (w ∷ ws) a = (a.ty w.left ≡ a.ty w.right) × Waits ws a

pub record Satisfies (ps : List ℕ) (hs : List Shape) (cs : List ℕ) (ws : List Pending) (a : Assignment) : Type 0 where
  pub types : Same ps a.ty
  pub classifiers : Same cs a.classifier
  pub shapes : (i : ℕ) → Meets (slice_index_or hs i Free) (a.ty i) a
  pub waits : Waits ws a

-- the state's nodes and classifier unknowns, counted, and the shape that a node has
abbrev pub nodes_in : State → ℕ
nodes_in s = length s.parent.items

abbrev pub classifiers_in : State → ℕ
classifiers_in s = length s.classifier.items

abbrev pub shape_at : State → ℕ → Shape
shape_at s i = slice_index_or s.shape.items i Free

-- an assignment to the nodes meets all that the state says
abbrev pub Means : State → Assignment → Type 0
Means s a = Satisfies s.parent.items s.shape.items s.classifier.items s.waiting.items a

-- the shapes after two classes became one
abbrev pub joined : List Shape → ℕ → ℕ → Shape → List Shape
joined hs high low h = slice_set (slice_set hs high Free) low h

-- a shape's nodes and classifiers are below the bounds
abbrev pub Inside : ℕ → ℕ → Shape → Type 0
Inside n m Free = Unit {0}
Inside n m Int = Unit {0}
Inside n m Bool = Unit {0}
Inside n m (Pair l r) = (l < n) × (r < n)
Inside n m (Arrow l r) = (l < n) × (r < n)
Inside n m (Code c t) = (c < m) × (t < n)
Inside n m (Closed t) = t < n

abbrev pub WaitsInside : ℕ → List Pending → Type 0
WaitsInside n [] = Unit {0}
WaitsInside n (w ∷ ws) = (w.left < n) × (w.right < n) × WaitsInside n ws

-- what every state keeps
pub record Sound (s : State) : Type 0 where
  pub low : Low s.parent.items
  pub low_classifiers : Low s.classifier.items
  pub lengths : length s.shape.items ≡ length s.parent.items
  pub bare : (i : ℕ) → i < length s.parent.items → slice_index_or s.parent.items i 0 ≢ i
      → slice_index_or s.shape.items i Free ≡ Free
  pub inside : (i : ℕ) → Inside (length s.parent.items) (length s.classifier.items)
      (slice_index_or s.shape.items i Free)
  pub waiting : WaitsInside (length s.parent.items) s.waiting.items

-- the second state's lists are the first's
pub record IsCopy (s t : State) : Type 0 where
  pub parent : t.parent.items ≡ s.parent.items
  pub shape : t.shape.items ≡ s.shape.items
  pub classifier : t.classifier.items ≡ s.classifier.items
  pub waiting : t.waiting.items ≡ s.waiting.items

abbrev pub ExtraInside : ℕ → ℕ → Met → Type 0
ExtraInside n m Clash = Unit {0}
ExtraInside n m (Keep h) = Inside n m h
ExtraInside n m (One h w) = Inside n m h × (w.left < n) × (w.right < n)
ExtraInside n m (Two h w x) = Inside n m h × (w.left < n) × (w.right < n) × (x.left < n) × (x.right < n)
ExtraInside n m (Classes h c d w) = Inside n m h × (c < m) × (d < m) × (w.left < n) × (w.right < n)

-- from node n on, each representative has a shape
abbrev pub IsShaped : ℕ → List ℕ → List Shape → Type 0
IsShaped n ps hs = (i : ℕ) → n ≤ i → i < length ps → slice_index_or ps i 0 ≡ i → slice_index_or hs i Free ≢ Free

-- where each representative from a node on has a shape in the first state, each has one in the second
abbrev pub StaysShaped : State → State → Type 0
StaysShaped s t = (n : ℕ) → IsShaped n s.parent.items s.shape.items → IsShaped n t.parent.items t.shape.items

-- the second state says what the first says and X, and keeps what states keep
pub record Step (s t : State) (X : Assignment → Type 0) : Type 0 where
  pub sound : Sound t
  pub node_count : length t.parent.items ≡ length s.parent.items
  pub classifier_count : length t.classifier.items ≡ length s.classifier.items
  pub shaped : StaysShaped s t
  pub out : (a : Assignment) → Means t a → Means s a × X a
  pub back : (a : Assignment) → Means s a → X a → Means t a

-- the second state says what the first says and that two nodes are one, but for what else is to be one
pub record Linked (s t : State) (low high : ℕ) (m : Met) : Type 0 where
  pub sound : Sound t
  pub node_count : length t.parent.items ≡ length s.parent.items
  pub classifier_count : length t.classifier.items ≡ length s.classifier.items
  pub shaped : m ≢ Clash → StaysShaped s t
  pub extra : ExtraInside (length t.parent.items) (length t.classifier.items) m
  pub out : (a : Assignment) → Means t a → Extra m a → Means s a × (a.ty low ≡ a.ty high)
  pub back : (a : Assignment) → Means s a → a.ty low ≡ a.ty high → Means t a × Extra m a

-- the state's solutions are none of X
abbrev pub Never : State → (Assignment → Type 0) → Type 0
Never s X = (a : Assignment) → Means s a → X a → ⊥

-- What shrinks: a shape weighs three nodes that wait, so two that are added for a shape that is given up cost less.
abbrev pub weight : Shape → ℕ
weight Free = 0
weight Int = 1
weight Bool = 1
weight (Pair l r) = 1
weight (Arrow l r) = 1
weight (Code c t) = 1
weight (Closed t) = 1

abbrev pub filled : List Shape → ℕ
filled [] = 0
filled (h ∷ hs) = weight h + filled hs

abbrev pub more : Met → ℕ
more Clash = 0
more (Keep h) = 0
more (One h w) = 1
more (Two h w x) = 2
more (Classes h c d w) = 1

abbrev pub work : State → ℕ
work s = 3 * filled s.shape.items + length s.waiting.items
