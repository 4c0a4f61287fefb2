-- Types, classifiers and typing environments.
use Rattle.std.specs.Prelude.{ℕ, ◌≢◌, List, [], ◌∷◌}
use Rattle.mw_term.specs.Terms.{GroundType, KernelType, base, product, of_ground, to}
use Rattle.mw_term.specs.declared.term.Base.{Base}
use Rattle.mw_term.specs.declared.term.Base.TheVariants.{Int, Bool}
use Rattle.mw_term.specs.declared.term.Primitive.{Primitive as Prim}
use Rattle.mw_term.specs.declared.term.Primitive.TheVariants.{Add, Sub, Mul, Div, Mod, Eq, Lt, Le}

-- The types of terms. A classifier is a number: code of type t under the classifier a may use the level 1 variables
-- under a, and closed code uses none.
pub data TermType : Type 0 where
  int_type : TermType
  bool_type : TermType
  pair_type : (s t : TermType) → TermType
  function_type : (s t : TermType) → TermType
  code_type : (a : ℕ) (t : TermType) → TermType
  closed_type : (t : TermType) → TermType

-- level 0, or level 1 under a classifier
pub data Level : Type 0 where
  live : Level
  under : (a : ℕ) → Level

-- what an environment says of a variable: the type of one of level 0, or the classifier and the type of one of level 1
pub data Entry : Type 0 where
  value : (t : TermType) → Entry
  quoted : (a : ℕ) (t : TermType) → Entry

-- a binder's entry at the level where it stands
abbrev pub entry : Level → TermType → Entry
entry live t = value t
entry (under a) t = quoted a t

-- the type holds no code type
abbrev pub IsPlain : TermType → Type 0
IsPlain int_type = Unit {0}
IsPlain bool_type = Unit {0}
IsPlain (pair_type s t) = IsPlain s × IsPlain t
IsPlain (function_type s t) = IsPlain s × IsPlain t
IsPlain (code_type a t) = ⊥
IsPlain (closed_type t) = ⊥

-- no code type stands under a code type
abbrev pub IsFormed : TermType → Type 0
IsFormed int_type = Unit {0}
IsFormed bool_type = Unit {0}
IsFormed (pair_type s t) = IsFormed s × IsFormed t
IsFormed (function_type s t) = IsFormed s × IsFormed t
IsFormed (code_type a t) = IsPlain t
IsFormed (closed_type t) = IsPlain t

-- a type that a term may have at a level: at level 1 it holds no code type
abbrev pub Fits : Level → TermType → Type 0
Fits live t = IsFormed t
Fits (under a) t = IsPlain t

-- the classifier a stands nowhere in the type
abbrev pub IsAbsentIn : ℕ → TermType → Type 0
IsAbsentIn a int_type = Unit {0}
IsAbsentIn a bool_type = Unit {0}
IsAbsentIn a (pair_type s t) = IsAbsentIn a s × IsAbsentIn a t
IsAbsentIn a (function_type s t) = IsAbsentIn a s × IsAbsentIn a t
IsAbsentIn a (code_type b t) = (b ≢ a) × IsAbsentIn a t
IsAbsentIn a (closed_type t) = IsAbsentIn a t

-- nor in the entry
abbrev pub IsAbsentAt : ℕ → Entry → Type 0
IsAbsentAt a (value t) = IsAbsentIn a t
IsAbsentAt a (quoted b t) = (b ≢ a) × IsAbsentIn a t

-- nor in any entry of the environment
abbrev pub IsAbsent : ℕ → List Entry → Type 0
IsAbsent a [] = Unit {0}
IsAbsent a (x ∷ g) = IsAbsentAt a x × IsAbsent a g

-- each type of the environment fits its variable's level
abbrev pub AreFormed : List Entry → Type 0
AreFormed [] = Unit {0}
AreFormed (value t ∷ g) = IsFormed t × AreFormed g
AreFormed (quoted a t ∷ g) = IsPlain t × AreFormed g

-- the environment has only variables of level 1
abbrev pub AllQuoted : List Entry → Type 0
AllQuoted [] = Unit {0}
AllQuoted (value t ∷ g) = ⊥
AllQuoted (quoted a t ∷ g) = AllQuoted g

-- base types, ground types and kernel types in any types that have an int, a bool, pairs and functions
abbrev pub base_in : {A : Type 0} → A → A → Base → A
base_in int bool Int = int
base_in int bool Bool = bool

abbrev pub ground_in : {A : Type 0} → A → A → (A → A → A) → GroundType → A
ground_in int bool pair (base b) = base_in int bool b
ground_in int bool pair (product s t) = pair (ground_in int bool pair s) (ground_in int bool pair t)

abbrev pub kernel_in : {A : Type 0} → A → A → (A → A → A) → (A → A → A) → KernelType → A
kernel_in int bool pair function (of_ground t) = ground_in int bool pair t
kernel_in int bool pair function (to s t) = function (ground_in int bool pair s) (ground_in int bool pair t)

-- and the type of what a primitive gives of two integers
abbrev pub primitive_in : {A : Type 0} → A → A → Prim → A
primitive_in int bool Add = int
primitive_in int bool Sub = int
primitive_in int bool Mul = int
primitive_in int bool Div = int
primitive_in int bool Mod = int
primitive_in int bool Eq = bool
primitive_in int bool Lt = bool
primitive_in int bool Le = bool

-- all of them as types of terms
abbrev pub base_type : Base → TermType
base_type b = base_in int_type bool_type b

abbrev pub ground_type : GroundType → TermType
ground_type t = ground_in int_type bool_type pair_type t

abbrev pub kernel_type : KernelType → TermType
kernel_type k = kernel_in int_type bool_type pair_type function_type k

abbrev pub primitive_type : Prim → TermType
primitive_type p = primitive_in int_type bool_type p
