-- Programs without names whose variables are bound and whose levels are right.
use Rattle.std.specs.Prelude.{ℕ, ◌≡◌, false, List, [], map, Some, slice_get}
use Rattle.mw_term.specs.Programs.{Definition, value, kernel, PureProgram, IsSyntacticValue}
use Rattle.mw_term.specs.Typing.{TopLevel}
use Rattle.mw_term.specs.Typable.{seen_by_item, seen_by_main}
use Rattle.mw_term.specs.Scoped.{IsScoped, is_seen}
use Rattle.mw_grammar.specs.SurfaceTrees.{PureSurface}
use Rattle.mw_scope.specs.Nameless.{IsNameless}

-- an item that sees these names: a let is a syntactic value
abbrev pub IsScopedItem : List TopLevel → Definition → Type 0
IsScopedItem tops (value e) = IsSyntacticValue e × IsScoped (map is_seen tops) [] false e
IsScopedItem tops (kernel k e) = IsScoped (map is_seen tops) [] false e

-- each item sees the lets before it, and main all items
pub record IsScopedProgram (p : PureProgram) : Type 0 where
  pub items : (i : ℕ) (d : Definition) → slice_get p.items i ≡ Some d → IsScopedItem (seen_by_item p.items i) d
  pub body : IsScoped (map is_seen (seen_by_main p.items)) [] false p.body

-- the program that a surface program is has its variables bound and its levels right
abbrev pub NamelessIsScoped : Type 0
NamelessIsScoped = (s : PureSurface) (p : PureProgram) → IsNameless s p → IsScopedProgram p
