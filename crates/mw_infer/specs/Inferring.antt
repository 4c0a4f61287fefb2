-- What solutions of an item's equations say of its types.
use Rattle.std.specs.Prelude.{ℕ, ◌≡◌, ◌+◌, ◌↔◌, List, [], ◌∷◌, ◌++◌, map}
use Rattle.mw_term.specs.Terms.{Expression}
use Rattle.mw_term.specs.Types.{TermType, int_type, closed_type, live, Entry, value as at_live, quoted, IsFormed}
use Rattle.mw_term.specs.Types.{IsAbsent, ground_type, kernel_type}
use Rattle.mw_term.specs.Typing.{TopLevel, let_item, kernel_item, out_of_scope, Typed}
use Rattle.mw_term.specs.Parts.{Place, let_place, kernel_place, main_place}
use Rattle.mw_term.specs.FlatTypes.{formed_type}
use Rattle.mw_types.specs.Types.{TypeExpression, unknown, closed_ty, Within, Assignment, value}
use Rattle.mw_types.specs.Equations.{TypeEquation}
use Rattle.mw_infer.specs.Schemes.{Scheme, TopScheme, let_scheme, kernel_scheme, scheme_out_of_scope}
use Rattle.mw_types.specs.Expressions.{ground_expression, kernel_expression}
use Rattle.mw_infer.specs.ItemEquations.{Slot, plain_slot, quoted_slot, equation, unknowns_of, classifiers_of}
use Rattle.mw_infer.specs.ItemEquations.{equations, Close, closes}

-- how many unknowns an item has, of which 0 is its type, and how many classifier unknowns
abbrev pub item_unknowns : List TopScheme → Expression → ℕ
item_unknowns tops e = 1 + unknowns_of tops e

abbrev pub item_classifiers : List TopScheme → Expression → ℕ
item_classifiers tops e = classifiers_of tops e

-- with these top-level names, the term has a type that its place asks
abbrev pub IsTypableAt : List TopLevel → Place → Expression → Type 0
IsTypableAt tops let_place e = (t : TermType) × Typed tops [] live e t
IsTypableAt tops (kernel_place k) e = Typed tops [] live e (closed_type (kernel_type k))
IsTypableAt tops (main_place g) e = Typed tops [] live e (ground_type g)

-- An item's equations, or main's. Its own equation stands first: it says what its place asks of its type.
abbrev pub own_equations : Place → List TypeEquation
own_equations let_place = []
own_equations (kernel_place k) = equation (unknown 0) (closed_ty (kernel_expression k)) ∷ []
own_equations (main_place g) = equation (unknown 0) (ground_expression g) ∷ []

abbrev pub item_equations : List TopScheme → Place → Expression → List TypeEquation
item_equations tops place e = own_equations place ++ equations tops 0 1 0 [] live e

-- the closes of an item
abbrev pub item_closes : List TopScheme → Expression → List Close
item_closes tops e = closes tops 1 0 [] live e

-- the environment's entry that an assignment makes of a slot
abbrev pub entry_of : Assignment → Slot → Entry
entry_of a (plain_slot u) = at_live (a.ty u)
entry_of a (quoted_slot c u) = quoted (a.classifier c) (a.ty u)

-- each close's classifier stands nowhere in its environment
abbrev pub AreFresh : Assignment → List Close → Type 0
AreFresh a [] = Unit {0}
AreFresh a (x ∷ xs) = IsAbsent (a.classifier x.classifier) (map (entry_of a) x.scope) × AreFresh a xs

-- int for each unknown, and each classifier unknown by its own name
abbrev pub least : Assignment
least = record { ty = λ u. int_type; classifier = λ c. c }

-- a type of the language that some assignment makes of a type with unknowns
pub record IsInstance (s : TypeExpression) (t : TermType) : Type 0 where
  pub formed : IsFormed t
  pub by : Assignment
  pub gives : value by s ≡ t

-- With these top-level names, the scheme is the most general type of a let's definition: the definition's types are
-- exactly its instances. Where an assignment makes of it a type that holds code under code, the type without that is an
-- instance too.
pub record IsSchemeOf (tops : List TopLevel) (e : Expression) (s : Scheme) : Type 0 where
  pub within : Within s.unknowns s.classifiers s.type
  pub types : (t : TermType) → Typed tops [] live e t ↔ IsInstance s.type t
  pub formed : (b : Assignment) → (d : Assignment) × (value d s.type ≡ formed_type (value b s.type))

-- a name's scheme is what the name stands for
abbrev pub IsSchemeOfName : List TopLevel → TopLevel → TopScheme → Type 0
IsSchemeOfName tops (let_item e) (let_scheme s) = IsSchemeOf tops e s
IsSchemeOfName tops (let_item e) (kernel_scheme k) = ⊥
IsSchemeOfName tops (let_item e) scheme_out_of_scope = ⊥
IsSchemeOfName tops (kernel_item k) (let_scheme s) = ⊥
IsSchemeOfName tops (kernel_item k) (kernel_scheme l) = k ≡ l
IsSchemeOfName tops (kernel_item k) scheme_out_of_scope = ⊥
IsSchemeOfName tops out_of_scope (let_scheme s) = ⊥
IsSchemeOfName tops out_of_scope (kernel_scheme k) = ⊥
IsSchemeOfName tops out_of_scope scheme_out_of_scope = Unit {0}

-- each name of a list has its scheme
abbrev pub AreSchemesOf : List TopLevel → List TopLevel → List TopScheme → Type 0
AreSchemesOf tops [] [] = Unit {0}
AreSchemesOf tops [] (s ∷ schemes) = ⊥
AreSchemesOf tops (x ∷ names) [] = ⊥
AreSchemesOf tops (x ∷ names) (s ∷ schemes) = IsSchemeOfName tops x s × AreSchemesOf tops names schemes
