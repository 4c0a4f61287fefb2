-- All literals have 64 bits: those of a source, of the code that its kernel items come to, and of the code that is run.
use Rattle.std.specs.Prelude.{ℕ, ◌≡◌, List, Some, slice_get}
use Rattle.mw_lex.specs.Tokens.{PureToken}
use Rattle.mw_term.specs.Terms.{Expression, KernelType}
use Rattle.mw_term.specs.Programs.{kernel, PureProgram}
use Rattle.mw_term.specs.Closed.{IsCode}
use Rattle.mw_term.specs.Limits.{LiteralsFit}
use Rattle.mw_grammar.specs.Answers.{IsProgram}
use Rattle.mw_grammar.specs.SurfaceTrees.{PureSurface}
use Rattle.mw_meaning.specs.declared.mode.Mode.{Mode}
use Rattle.mw_meaning.specs.Outcomes.{came_to, item_outcome, names_of_items}
use Rattle.mw_meaning.specs.Simplification.{in_mode}
use Rattle.mw_scope.specs.Nameless.{IsNameless}
use Rattle.mw_literals.specs.Literals.{HasShortProgram}

-- a program that is read from tokens has literals of 64 bits
abbrev pub SourceLiteralsFit : Type 0
SourceLiteralsFit = (tokens : List PureToken) (s : PureSurface) (p : PureProgram) → IsProgram tokens s → IsNameless s p
    → HasShortProgram p

-- so has the code that a kernel item of such a program comes to
abbrev pub BuiltLiteralsFit : Type 0
BuiltLiteralsFit = (mode : Mode) (p : PureProgram) → HasShortProgram p → (i : ℕ) (k : KernelType) (e c : Expression)
    (fuel : ℕ)
    → slice_get p.items i ≡ Some (kernel k e) → item_outcome mode (names_of_items p.items) fuel e ≡ came_to c
    → LiteralsFit c

-- and the code that a mode makes of code with literals of 64 bits
abbrev pub SimplifiedLiteralsFit : Type 0
SimplifiedLiteralsFit = (mode : Mode) (c : Expression) → IsCode c → LiteralsFit c → LiteralsFit (in_mode mode c)
