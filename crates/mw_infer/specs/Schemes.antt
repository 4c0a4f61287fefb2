-- What a top-level name has where a term's equations use it, and the types without unknowns as types with unknowns.
use Rattle.std.specs.Prelude.{ℕ, ◌+◌, List, [], ◌∷◌}
use Rattle.mw_term.specs.Terms.{KernelType}
use Rattle.mw_types.specs.Types.{TypeExpression, int_ty, bool_ty, unknown, pair_ty, function_ty, code_ty, closed_ty}
use Rattle.mw_types.specs.Types.{Within}
use Rattle.mw_types.specs.Expressions.{kernel_expression}
use Rattle.mw_types.specs.Numbered.{IsNumbered}

-- a let's most general type: it names the first so many unknowns and the first so many classifier unknowns
pub record Scheme : Type 0 where
  pub unknowns : ℕ
  pub classifiers : ℕ
  pub type : TypeExpression

-- what a name has: a let its most general type, a kernel item its kernel type; a name that is out of scope has nothing
pub data TopScheme : Type 0 where
  let_scheme : (s : Scheme) → TopScheme
  kernel_scheme : (k : KernelType) → TopScheme
  scheme_out_of_scope : TopScheme

-- the scheme's numbers are those that its type names, in their order
abbrev pub IsInOrder : Scheme → Type 0
IsInOrder s = IsNumbered 0 0 s.type s.unknowns s.classifiers

-- each let's type names its own unknowns and classifier unknowns alone
abbrev pub AreOwn : List TopScheme → Type 0
AreOwn [] = Unit {0}
AreOwn (let_scheme s ∷ tops) = Within s.unknowns s.classifiers s.type × AreOwn tops
AreOwn (kernel_scheme k ∷ tops) = AreOwn tops
AreOwn (scheme_out_of_scope ∷ tops) = AreOwn tops

-- the type on new unknowns and classifier unknowns, numbered from these on
abbrev pub shifted : ℕ → ℕ → TypeExpression → TypeExpression
shifted o c int_ty = int_ty
shifted o c bool_ty = bool_ty
shifted o c (unknown u) = unknown (o + u)
shifted o c (pair_ty s t) = pair_ty (shifted o c s) (shifted o c t)
shifted o c (function_ty s t) = function_ty (shifted o c s) (shifted o c t)
shifted o c (code_ty d t) = code_ty (c + d) (shifted o c t)
shifted o c (closed_ty t) = closed_ty (shifted o c t)

-- the type of a name
abbrev pub type_of_scheme : TopScheme → TypeExpression
type_of_scheme (let_scheme s) = s.type
type_of_scheme (kernel_scheme k) = closed_ty (kernel_expression k)
type_of_scheme scheme_out_of_scope = int_ty
