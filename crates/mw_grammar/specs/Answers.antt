-- What the answers mean, in the grammar's words alone.
use Rattle.std.specs.Prelude.{ℕ, suc, ◌≡◌, ◌<◌, ◌≤◌, List, [], ◌∷◌, ◌++◌, length}
use Rattle.mw_lex.specs.Tokens.{PureToken, token}
use Rattle.mw_grammar.specs.SurfaceTrees.{PureItem, let_item, kernel_item, PureSurface}
use Rattle.mw_grammar.specs.SourceNodes.{Nodes, depth, height}
use Rattle.mw_grammar.specs.Grammar.{program, Reads}

-- the tokens are a program with this tree and these nodes
abbrev pub Derives : List PureToken → PureSurface → Nodes → Type 0
Derives tokens v s = Reads program tokens v s []

-- some tokens complete the front
abbrev pub BeginsProgram : List PureToken → Type 0
BeginsProgram front = (more : List PureToken) × (v : PureSurface) × (s : Nodes) × Derives (front ++ more) v s

-- The depth of a front is that of the tree so far, in each completion: at most b, or above b.
abbrev pub IsAtMost : ℕ → List PureToken → Type 0
IsAtMost b front = (more : List PureToken) (v : PureSurface) (s : Nodes) → Derives (front ++ more) v s
    → depth (length more) s ≤ b

abbrev pub IsAbove : ℕ → List PureToken → Type 0
IsAbove b front = (more : List PureToken) (v : PureSurface) (s : Nodes) → Derives (front ++ more) v s
    → b < depth (length more) s

-- no program begins with the front and the next token, or the front is none where no token is left
abbrev pub IsDead : List PureToken → List PureToken → Type 0
IsDead front [] = (v : PureSurface) (s : Nodes) → Derives front v s → ⊥
IsDead front (t ∷ rest) = (more : List PureToken) (v : PureSurface) (s : Nodes) → Derives (front ++ (t ∷ more)) v s → ⊥

-- the tokens are a program with this tree, of which no path has more than b nodes
pub record IsTree (b : ℕ) (tokens : List PureToken) (v : PureSurface) : Type 0 where
  pub nodes : Nodes
  pub derives : Derives tokens v nodes
  pub low : height nodes ≤ b

-- rest begins with the first token with which no program begins, and up to there the tree is not deeper than b
pub record IsSyntax (b : ℕ) (tokens rest : List PureToken) : Type 0 where
  pub front : List PureToken
  pub split : tokens ≡ front ++ rest
  pub begins : BeginsProgram front
  pub low : IsAtMost b front
  pub dead : IsDead front rest

-- rest begins with the first token with which the tree so far is deeper than b, and with which a program still begins
pub record IsDeep (b : ℕ) (tokens rest : List PureToken) : Type 0 where
  pub front : List PureToken
  pub fault : PureToken
  pub behind : List PureToken
  pub first : rest ≡ fault ∷ behind
  pub split : tokens ≡ front ++ (fault ∷ behind)
  pub begins : BeginsProgram (front ++ (fault ∷ []))
  pub low : IsAtMost b front
  pub high : IsAbove b (front ++ (fault ∷ []))

-- the offset of the first of these tokens, or the file's length where none is left
abbrev pub place_of : List PureToken → ℕ → ℕ
place_of [] length = length
place_of (token start stop k ∷ tokens) length = start

pub record IsSyntaxAt (tokens : List PureToken) (length at : ℕ) : Type 0 where
  pub rest : List PureToken
  pub fault : IsSyntax 200 tokens rest
  pub place : at ≡ place_of rest length

pub record IsTooDeepAt (tokens : List PureToken) (at : ℕ) : Type 0 where
  pub rest : List PureToken
  pub fault : IsDeep 200 tokens rest
  pub place : at ≡ place_of rest 0

abbrev pub kernels : List PureItem → ℕ
kernels [] = 0
kernels (let_item x at from e ∷ items) = kernels items
kernels (kernel_item x at k e ∷ items) = suc (kernels items)

-- at most 1,000 items, and at most 100 of them kernel items
pub record AreFew (all : List PureItem) : Type 0 where
  pub items : length all ≤ 1000
  pub kernel_items : kernels all ≤ 100

pub data AreTooMany (all : List PureItem) : Type 0 where
  items : 1000 < length all → AreTooMany all
  kernel_items : 100 < kernels all → AreTooMany all

-- the program that the tokens are
pub record IsProgram (tokens : List PureToken) (v : PureSurface) : Type 0 where
  pub is : IsTree 200 tokens v
  pub few : AreFew v.items

-- the tokens are a program, but of too many items
pub record HasTooMany (tokens : List PureToken) : Type 0 where
  pub tree : PureSurface
  pub is : IsTree 200 tokens tree
  pub many : AreTooMany tree.items

-- A list of tokens is a program of no greater depth than b, or it has a first fault.
pub data HasAnswer (b : ℕ) (tokens : List PureToken) : Type 0 where
  a_tree : (v : PureSurface) → IsTree b tokens v → HasAnswer b tokens
  a_syntax : (rest : List PureToken) → IsSyntax b tokens rest → HasAnswer b tokens
  a_deep : (rest : List PureToken) → IsDeep b tokens rest → HasAnswer b tokens

-- a list of tokens derives at most one tree
abbrev pub HaveOneTree : List PureToken → Type 0
HaveOneTree tokens = (v w : PureSurface) (s t : Nodes) → Derives tokens v s → Derives tokens w t → v ≡ w

-- the depth of a front is the same in all its completions
abbrev pub HasOneDepth : List PureToken → Type 0
HasOneDepth front = (more more' : List PureToken) (v v' : PureSurface) (s s' : Nodes) → Derives (front ++ more) v s
    → Derives (front ++ more') v' s' → depth (length more) s ≡ depth (length more') s'
