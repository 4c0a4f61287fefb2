-- Which programs have types that are not too big, and the first fault of one that has not.
use Rattle.std.specs.Prelude.{ℕ, ◌≡◌, ◌+◌, ◌<◌, ◌≤◌, ◌↔◌, List, [], ◌∷◌, ◌++◌, map, take, length, Some}
use Rattle.std.specs.Prelude.{slice_get}
use Rattle.mw_term.specs.Terms.{Expression, KernelType}
use Rattle.mw_term.specs.Limits.{kernel_nodes}
use Rattle.mw_term.specs.Programs.{value, kernel, PureProgram, IsSyntacticValue}
use Rattle.mw_term.specs.Types.{TermType, live, IsAbsent}
use Rattle.mw_term.specs.Typing.{TopLevel, Typed}
use Rattle.mw_term.specs.declared.refusal.Refusal.{Refusal}
use Rattle.mw_term.specs.declared.refusal.Refusal.TheVariants.{IllTyped, TypeTooBig, NotClosed}
use Rattle.mw_types.specs.Types.{TypeExpression, Substitution, after, closed_ty}
use Rattle.mw_types.specs.Equations.{MostGeneral, IsSmall, StaysWithin, TooBig, Fine, FirstUnsolvable}
use Rattle.mw_types.specs.Equations.{FirstTooBig}
use Rattle.mw_infer.specs.Schemes.{TopScheme, let_scheme, kernel_scheme, scheme_out_of_scope, IsInOrder}
use Rattle.mw_types.specs.Expressions.{ground_expression, kernel_expression}
use Rattle.mw_term.specs.Sources.{IsSource}
use Rattle.mw_infer.specs.ItemEquations.{Close}
use Rattle.mw_infer.specs.Inferring.{item_unknowns, item_classifiers, item_closes, IsTypableAt, item_equations}
use Rattle.mw_infer.specs.Inferring.{entry_of, AreFresh, least, IsInstance, AreSchemesOf}
use Rattle.mw_term.specs.Parts.{Place, let_place, kernel_place, main_place, Part, IsPart}

-- each let's scheme has its numbers in order
abbrev pub AreInOrder : List TopScheme → Type 0
AreInOrder [] = Unit {0}
AreInOrder (let_scheme s ∷ schemes) = IsInOrder s × AreInOrder schemes
AreInOrder (kernel_scheme k ∷ schemes) = AreInOrder schemes
AreInOrder (scheme_out_of_scope ∷ schemes) = AreInOrder schemes

-- the schemes of names: each let's is its most general type. There is one such list at most.
pub record ArePrincipal (names : List TopLevel) (schemes : List TopScheme) : Type 0 where
  pub of : AreSchemesOf names names schemes
  pub in_order : AreInOrder schemes

-- a most general solution of an item's equations, on its own numbers, in which no type is too big
pub record IsItemSolution (schemes : List TopScheme) (place : Place) (e : Expression) (s : Substitution) : Type 0 where
  pub general : MostGeneral (item_unknowns schemes e) (item_classifiers schemes e) (item_equations schemes place e) s
  pub small : IsSmall (item_unknowns schemes e) s
  pub within : StaysWithin (item_unknowns schemes e) (item_classifiers schemes e) s

-- the first close that is not fresh on a substitution
pub record IsFirstOpen (s : Substitution) (xs : List Close) (x : Close) : Type 0 where
  pub earlier : List Close
  pub later : List Close
  pub parts : xs ≡ earlier ++ (x ∷ later)
  pub fresh : AreFresh (after least s) earlier
  pub stands : IsAbsent (s.classifier x.classifier) (map (entry_of (after least s)) x.scope) → ⊥

-- what is wrong with a part's types
pub data TypeFault : Type 0 where
  ill_typed : TypeFault
  too_big : TypeFault
  not_closed : (at : ℕ) → TypeFault

-- With the schemes of its names, a term at a place has the fault: the first front of its equations that has no solution
-- or is too big decides, and where there is none the first close that is not fresh on a most general solution.
pub data HasFault (schemes : List TopScheme) (place : Place) (e : Expression) : TypeFault → Type 0 where
  unsolvable : {k : ℕ} → FirstUnsolvable (item_unknowns schemes e) (item_classifiers schemes e)
      (item_equations schemes place e) k → HasFault schemes place e ill_typed
  oversized : {k : ℕ} → FirstTooBig (item_unknowns schemes e) (item_classifiers schemes e)
      (item_equations schemes place e) k → HasFault schemes place e too_big
  unclosed : {s : Substitution} {y : Close} → MostGeneral (item_unknowns schemes e) (item_classifiers schemes e)
      (item_equations schemes place e) s → IsSmall (item_unknowns schemes e) s → IsFirstOpen s (item_closes schemes e) y
      → HasFault schemes place e (not_closed y.at)

-- the part has a type that its place asks, and no type of its equations is too big
pub record IsFaultless (x : Part) : Type 0 where
  pub schemes : List TopScheme
  pub principal : ArePrincipal x.names schemes
  pub fine : Fine (item_unknowns schemes x.term) (item_classifiers schemes x.term)
      (item_equations schemes x.place x.term)
  pub typable : IsTypableAt x.names x.place x.term

-- the refusal for a fault of the part at an index
abbrev pub refusal_of : ℕ → TypeFault → Refusal
refusal_of i ill_typed = IllTyped i
refusal_of i too_big = TypeTooBig i
refusal_of i (not_closed at) = NotClosed at

-- a program's first refusal: that of the first part that has a fault
pub record IsFirstRefusal (p : PureProgram) (r : Refusal) : Type 0 where
  pub at : ℕ
  pub part : Part
  pub is_part : IsPart p at part
  pub schemes : List TopScheme
  pub principal : ArePrincipal part.names schemes
  pub fault : TypeFault
  pub has : HasFault schemes part.place part.term fault
  pub refusal : r ≡ refusal_of at fault
  pub earlier : (j : ℕ) (x : Part) → j < at → IsPart p j x → IsFaultless x

-- each part is without fault
abbrev pub AreFaultless : PureProgram → Type 0
AreFaultless p = (i : ℕ) (x : Part) → IsPart p i x → IsFaultless x

-- no front of a part's equations is too big
abbrev pub NoneTooBig : PureProgram → Type 0
NoneTooBig p = (i : ℕ) (x : Part) (schemes : List TopScheme) (k : ℕ) → IsPart p i x → ArePrincipal x.names schemes
    → TooBig (item_unknowns schemes x.term) (item_classifiers schemes x.term)
    (take k (item_equations schemes x.place x.term)) → ⊥

-- each kernel item's type has at most 10,000 nodes
abbrev pub HasSmallKernels : PureProgram → Type 0
HasSmallKernels p = (i : ℕ) (k : KernelType) (e : Expression) → slice_get p.items i ≡ Some (kernel k e) → kernel_nodes k
    ≤ 10000

-- a program as it comes from a source: its lets are syntactic values, and no value was put into its terms
pub record IsWritten (p : PureProgram) : Type 0 where
  pub values : (i : ℕ) (e : Expression) → slice_get p.items i ≡ Some (value e) → IsSyntacticValue e
  pub sources : (i : ℕ) (x : Part) → IsPart p i x → IsSource x.term

-- the most general type of a part: a let's types are exactly its instances, and of another part it is what its place
-- asks
abbrev pub IsTypeOf : Part → Place → TypeExpression → Type 0
IsTypeOf x let_place t = (u : TermType) → Typed x.names [] live x.term u ↔ IsInstance t u
IsTypeOf x (kernel_place k) t = t ≡ closed_ty (kernel_expression k)
IsTypeOf x (main_place g) t = t ≡ ground_expression g

-- the most general types of a program's items and of main, in order
pub record AreTypesOf (p : PureProgram) (types : List TypeExpression) : Type 0 where
  pub count : length types ≡ length p.items + 1
  pub each : (i : ℕ) (x : Part) (t : TypeExpression) → IsPart p i x → slice_get types i ≡ Some t → IsTypeOf x x.place t
