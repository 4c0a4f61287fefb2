-- What reading gives of a source: a program, or the first refusal of its bytes, tokens, names and levels.
use Rattle.std.specs.Prelude.{ℕ, ◌≡◌, ◌<◌, ◌≤◌, List, map, length}
use Rattle.mw_term.specs.declared.refusal.Refusal.{Refusal}
use Rattle.mw_term.specs.declared.refusal.Refusal.TheVariants.{TooLarge}
use Rattle.mw_lex.specs.Tokens.{PureToken}
use Rattle.mw_lex.specs.Reading.{AreTokens, IsFirstFault}
use Rattle.mw_grammar.specs.SurfaceTrees.{PureSurface}
use Rattle.mw_grammar.specs.Answers.{IsProgram}
use Rattle.mw_parse.specs.Reading.{Refuses}
use Rattle.mw_scope.specs.declared.fault.Fault.{Fault}
use Rattle.mw_scope.specs.Scopes.{name_of}
use Rattle.mw_scope.specs.Nameless.{IsNameless}
use Rattle.mw_scope.specs.Faults.{faults_of, refusal_of, IsFirst as IsFirstOf}
use Rattle.mw_reading.specs.NamedPrograms.{NamedProgram, unnamed, names_of}

-- a source has at most 1,048,576 bytes
abbrev pub IsSmall : List ℕ → Type 0
IsSmall bytes = length bytes ≤ 1048576

-- The bytes are tokens, these a program with its names, and this, nameless, the program; the items keep their names.
pub record IsRead (bytes : List ℕ) (p : NamedProgram) : Type 0 where
  pub small : IsSmall bytes
  pub tokens : List PureToken
  pub are_tokens : AreTokens bytes tokens
  pub surface : PureSurface
  pub is_surface : IsProgram tokens surface
  pub is_nameless : IsNameless surface (unnamed p)
  pub names : names_of p ≡ map name_of surface.items

-- A source is refused for its size, else for the first fault of its bytes, else of its tokens, else of its names and
-- levels.
pub data IsRefused (bytes : List ℕ) : Refusal → Type 0 where
  too_large : 1048576 < length bytes → IsRefused bytes TooLarge
  at_bytes : {r : Refusal} → IsSmall bytes → IsFirstFault bytes r → IsRefused bytes r
  at_tokens : {r : Refusal} (tokens : List PureToken) → IsSmall bytes → AreTokens bytes tokens → Refuses tokens
      (length bytes) r → IsRefused bytes r
  at_names : {r : Refusal} (tokens : List PureToken) (surface : PureSurface) (f : Fault) → IsSmall bytes
      → AreTokens bytes tokens → IsProgram tokens surface → IsFirstOf (faults_of surface) f → r ≡ refusal_of f
      → IsRefused bytes r
