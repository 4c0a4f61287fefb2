-- How the equations of an item and its types go together.
use Rattle.std.specs.Prelude.{◌≡◌, ◌↔◌, ◌⊎◌, List}
use Rattle.mw_term.specs.Terms.{Expression}
use Rattle.mw_term.specs.Typing.{TopLevel}
use Rattle.mw_types.specs.Types.{Substitution, after}
use Rattle.mw_types.specs.Equations.{AllWithin, Solvable, MostGeneral, StaysWithin}
use Rattle.mw_term.specs.Programs.{PureProgram}
use Rattle.mw_term.specs.Typable.{Typable}
use Rattle.mw_term.specs.declared.refusal.Refusal.{Refusal}
use Rattle.mw_infer.specs.Schemes.{Scheme, TopScheme, AreOwn, IsInOrder}
use Rattle.mw_infer.specs.Checking.{IsFirstRefusal, AreFaultless, NoneTooBig, IsWritten}
use Rattle.mw_term.specs.Sources.{IsSource}
use Rattle.mw_infer.specs.Inferring.{item_unknowns, item_classifiers, item_closes, IsTypableAt, item_equations}
use Rattle.mw_infer.specs.Inferring.{AreFresh, least, IsSchemeOf, AreSchemesOf}
use Rattle.mw_term.specs.Parts.{Place, let_place}

-- the equations of an item name its own unknowns and classifier unknowns alone
abbrev pub EquationsAreOwn : Type 0
EquationsAreOwn = (schemes : List TopScheme) (place : Place) (e : Expression) → AreOwn schemes
    → AllWithin (item_unknowns schemes e) (item_classifiers schemes e) (item_equations schemes place e)

-- where an item has a type that its place asks, its equations have a solution
abbrev pub TypableIsSolvable : Type 0
TypableIsSolvable = (tops : List TopLevel) (schemes : List TopScheme) (place : Place) (e : Expression)
    → AreSchemesOf tops tops schemes → IsSource e → IsTypableAt tops place e → Solvable (item_equations schemes place e)

-- an item has such a type exactly where its closes are fresh on a most general solution of its equations
abbrev pub TypableWhereFresh : Type 0
TypableWhereFresh = (tops : List TopLevel) (schemes : List TopScheme) (place : Place) (e : Expression)
    (s : Substitution) → AreSchemesOf tops tops schemes → IsSource e → MostGeneral (item_unknowns schemes e)
    (item_classifiers schemes e) (item_equations schemes place e) s
    → IsTypableAt tops place e ↔ AreFresh (after least s) (item_closes schemes e)

-- and then the most general type of a let is its scheme: its types are exactly that type's instances
abbrev pub MostGeneralIsScheme : Type 0
MostGeneralIsScheme = (tops : List TopLevel) (schemes : List TopScheme) (e : Expression) (s : Substitution)
    → AreSchemesOf tops tops schemes → IsSource e → MostGeneral (item_unknowns schemes e) (item_classifiers schemes e)
    (item_equations schemes let_place e) s → StaysWithin (item_unknowns schemes e) (item_classifiers schemes e) s
    → AreFresh (after least s) (item_closes schemes e)
    → IsSchemeOf tops e
    (record { unknowns = item_unknowns schemes e; classifiers = item_classifiers schemes e; type = s.ty 0 })

-- a definition has one scheme at most whose numbers are in order
abbrev pub SchemesInOrderAreOne : Type 0
SchemesInOrderAreOne = (tops : List TopLevel) (e : Expression) (s r : Scheme) → IsSchemeOf tops e s
    → IsSchemeOf tops e r → IsInOrder s → IsInOrder r → s ≡ r

-- a program has one refusal at most
abbrev pub RefusalsAreOne : Type 0
RefusalsAreOne = (p : PureProgram) (q r : Refusal) → IsWritten p → IsFirstRefusal p q → IsFirstRefusal p r → q ≡ r

-- a program whose parts are without fault is typable, and none of its types is too big
abbrev pub FaultlessAreTypable : Type 0
FaultlessAreTypable = (p : PureProgram) → IsWritten p → AreFaultless p → Typable p × NoneTooBig p

-- and such a program is not refused
abbrev pub TypableAreNotRefused : Type 0
TypableAreNotRefused = (p : PureProgram) (r : Refusal) → IsWritten p → Typable p → NoneTooBig p → IsFirstRefusal p r → ⊥

-- a program is typable and none of its types is too big, or it has a first refusal
abbrev pub CheckedOrRefused : Type 0
CheckedOrRefused = (p : PureProgram) → IsWritten p → (Typable p × NoneTooBig p) ⊎ ((r : Refusal) × IsFirstRefusal p r)
