-- Types with unknowns, assignments, and substitutions.
use Rattle.std.specs.Prelude.{ℕ, ◌+◌, ◌<◌}
use Rattle.mw_term.specs.Types.{TermType, int_type, bool_type, pair_type, function_type, code_type, closed_type}
use Rattle.mw_types.specs.declared.types.Ty.{Ty}
use Rattle.mw_types.specs.declared.types.Ty.TheVariants.{Int, Bool, Unknown, Pair', Arrow', Code', Closed'}

-- Types in which unknowns stand for types. code_ty c t names a classifier unknown.
pub data TypeExpression : Type 0 where
  int_ty : TypeExpression
  bool_ty : TypeExpression
  unknown : (u : ℕ) → TypeExpression
  pair_ty : (s t : TypeExpression) → TypeExpression
  function_ty : (s t : TypeExpression) → TypeExpression
  code_ty : (c : ℕ) (t : TypeExpression) → TypeExpression
  closed_ty : (t : TypeExpression) → TypeExpression

-- the view
abbrev pub type_of : Ty → TypeExpression
type_of Int = int_ty
type_of Bool = bool_ty
type_of (Unknown u) = unknown u
type_of (Pair' p s q t) = pair_ty (type_of s) (type_of t)
type_of (Arrow' p s q t) = function_ty (type_of s) (type_of t)
type_of (Code' c p t) = code_ty c (type_of t)
type_of (Closed' p t) = closed_ty (type_of t)

-- the type names the first n unknowns and the first m classifier unknowns alone
abbrev pub Within : ℕ → ℕ → TypeExpression → Type 0
Within n m int_ty = Unit {0}
Within n m bool_ty = Unit {0}
Within n m (unknown u) = u < n
Within n m (pair_ty s t) = Within n m s × Within n m t
Within n m (function_ty s t) = Within n m s × Within n m t
Within n m (code_ty c t) = (c < m) × Within n m t
Within n m (closed_ty t) = Within n m t

-- a finite type for each unknown, and a classifier for each classifier unknown
pub record Assignment : Type 0 where
  pub ty : ℕ → TermType
  pub classifier : ℕ → ℕ

-- the finite type that an assignment makes of a type
abbrev pub value : Assignment → TypeExpression → TermType
value a int_ty = int_type
value a bool_ty = bool_type
value a (unknown u) = a.ty u
value a (pair_ty s t) = pair_type (value a s) (value a t)
value a (function_ty s t) = function_type (value a s) (value a t)
value a (code_ty c t) = code_type (a.classifier c) (value a t)
value a (closed_ty t) = closed_type (value a t)

-- A type's nodes: its words, unknowns and constructors. A classifier is none.
abbrev pub nodes : TypeExpression → ℕ
nodes int_ty = 1
nodes bool_ty = 1
nodes (unknown u) = 1
nodes (pair_ty s t) = nodes s + nodes t + 1
nodes (function_ty s t) = nodes s + nodes t + 1
nodes (code_ty c t) = nodes t + 1
nodes (closed_ty t) = nodes t + 1

-- the nodes of a finite type
abbrev pub size : TermType → ℕ
size int_type = 1
size bool_type = 1
size (pair_type s t) = size s + size t + 1
size (function_type s t) = size s + size t + 1
size (code_type a t) = size t + 1
size (closed_type t) = size t + 1

-- a type for each unknown, which may hold unknowns again, and a classifier unknown for each
pub record Substitution : Type 0 where
  pub ty : ℕ → TypeExpression
  pub classifier : ℕ → ℕ

-- first the substitution, then the assignment
abbrev pub after : Assignment → Substitution → Assignment
after b s = record { ty = λ u. value b (s.ty u); classifier = λ c. b.classifier (s.classifier c) }

-- what a substitution makes of a type
abbrev pub apply : Substitution → TypeExpression → TypeExpression
apply s int_ty = int_ty
apply s bool_ty = bool_ty
apply s (unknown u) = s.ty u
apply s (pair_ty l r) = pair_ty (apply s l) (apply s r)
apply s (function_ty l r) = function_ty (apply s l) (apply s r)
apply s (code_ty c t) = code_ty (s.classifier c) (apply s t)
apply s (closed_ty t) = closed_ty (apply s t)
