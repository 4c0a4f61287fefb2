-- The basic laws of typing.
use Rattle.std.specs.Prelude.{zero, List, ◌∷◌, length}
use Rattle.mw_term.specs.Terms.{Expression, Value}
use Rattle.mw_term.specs.Substitution.{shift, substitute}
use Rattle.mw_term.specs.Closed.{ClosedBelow}
use Rattle.mw_term.specs.Types.{TermType, Level, Entry, value, Fits, AreFormed}
use Rattle.mw_term.specs.Typing.{TopLevel, Typed, Valued}

-- where the environment's types fit their levels, so does each type that a term has
abbrev pub TypesFit : Type 0
TypesFit = (tops : List TopLevel) (g : List Entry) (m : Level) (e : Expression) (t : TermType) → AreFormed g
    → Typed tops g m e t → Fits m t

-- a typed term uses the variables of its environment alone
abbrev pub TypedIsClosed : Type 0
TypedIsClosed = (tops : List TopLevel) (g : List Entry) (m : Level) (e : Expression) (t : TermType) → Typed tops g m e t
    → ClosedBelow (length g) e

-- one more binder takes no type away
abbrev pub WeakeningKeepsTypes : Type 0
WeakeningKeepsTypes = (tops : List TopLevel) (g : List Entry) (x : Entry) (m : Level) (e : Expression) (t : TermType)
    → Typed tops g m e t → Typed tops (x ∷ g) m (shift e zero) t

-- nor does a value of a variable's type that is put for the variable
abbrev pub SubstitutionKeepsTypes : Type 0
SubstitutionKeepsTypes = (tops : List TopLevel) (g : List Entry) (m : Level) (e : Expression) (v : Value)
    (s t : TermType) → Valued tops g v s → Typed tops (value s ∷ g) m e t → Typed tops g m (substitute e zero v) t
