-- The code that a kernel item comes to has literals of 64 bits.
use Rattle.std.proofs.Common.{◌≡◌, ℕ, zero, suc, Bool, true, false, List, [], ◌∷◌, Some, subst, arith}
use Rattle.std.specs.Prelude.{slice_get}
use Rattle.mw_term.specs.Limits.{within_limits}
use Rattle.mw_term.specs.Programs.{Definition, value as defines, kernel, value_of_definition}
use Rattle.mw_term.specs.Terms.{Expression, Value, KernelType, num, truth, fun, fix, pair, code}
use Rattle.mw_meaning.specs.Outcomes.{Outcome, came_to, trapped, bounded, stuck, measured_code, code_outcome}
use Rattle.mw_meaning.specs.Outcomes.{value_for_items, names_of_items}
use Rattle.mw_meaning.specs.Arithmetic.{trap, bound, stuck as no_rule}
use Rattle.mw_meaning.specs.StagedMeaning.{Answer, gives, stops, Runs, staged}
use Rattle.mw_meaning.specs.TypingLaws.{IfGives}
use Rattle.mw_literals.specs.Literals.{HasShortLiterals, HasShortValue, HasShortDefinition, AreShortDefinitions}
use Rattle.mw_literals.specs.LiteralLaws.{BuiltLiteralsFit}
use Rattle.mw_literals.proofs.SimplifiedLiterals.{literals_fit}
use Rattle.mw_literals.proofs.StagedLiterals.{AreShortNames, staged_short}

-- the value of a definition is short, and the names' values
definition_short : (e : Expression) → HasShortLiterals e → HasShortValue (value_of_definition e)
definition_short (num z) x = x
definition_short (truth b) x = tt
definition_short (fun e) x = x
definition_short (fix e) x = x
definition_short (pair a b) x = (definition_short a x.0, definition_short b x.1)
definition_short _ x = record { sfits = omega arith }

item_short : (d : Definition) → HasShortDefinition d → HasShortValue (value_for_items d)
item_short (defines e) x = definition_short e x
item_short (kernel k e) x = record { sfits = omega arith }

names_short : (items : List Definition) → AreShortDefinitions items → AreShortNames (names_of_items items)
names_short [] x i v e = absurd (cc)
names_short (d ∷ items) x zero v e = let p : value_for_items d ≡ v = cc in subst HasShortValue p (item_short d x.0)
names_short (d ∷ items) x (suc i) v e = names_short items x.1 i v e

-- an item's term is short
term_short : (items : List Definition) (i : ℕ) (k : KernelType) (e : Expression) → AreShortDefinitions items
    → slice_get items i ≡ Some (kernel k e) → HasShortLiterals e
term_short [] i k e x p = absurd (cc)
term_short (d ∷ items) zero k e x p = let q : d ≡ kernel k e = cc in subst HasShortDefinition q x.0
term_short (d ∷ items) (suc i) k e x p = term_short items i k e x.1 p

-- the code that is come to, if any, is short
abbrev ComesShort : Outcome Expression → Type 0
ComesShort (came_to c) = HasShortLiterals c
ComesShort (trapped t) = Unit {0}
ComesShort (bounded l) = Unit {0}
ComesShort stuck = Unit {0}

measured_short : (b : Bool) (c : Expression) → HasShortLiterals c → ComesShort (measured_code b c)
measured_short true c x = x
measured_short false c x = tt

outcome_short : (a : Answer Runs Value) → IfGives HasShortValue a → ComesShort (code_outcome a)
outcome_short (gives (code c) n s) x = measured_short (within_limits c) c x
outcome_short (gives _ n s) x = tt
outcome_short (stops (trap t) s) x = tt
outcome_short (stops (bound l) s) x = tt
outcome_short (stops no_rule s) x = tt

pub built_literals : BuiltLiteralsFit
built_literals mode p h i k e c fuel q came =
    let names = names_of_items p.items in
    let short = staged_short mode names fuel e (names_short p.items h.0) (term_short p.items i k e h.0 q) in
    literals_fit c (subst ComesShort came (outcome_short (staged mode names fuel e) short))
