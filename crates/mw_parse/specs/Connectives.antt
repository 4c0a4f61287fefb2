-- `&&` and `||` of the reader, as the grammar's.
use Rattle.std.specs.Prelude.{true, false}
use Rattle.mw_grammar.specs.SurfaceTrees.{SurfaceTree, truth, cond}
use Rattle.mw_grammar.specs.Grammar.{Precedence, disjunction, conjunction, comparison}
use Rattle.mw_grammar.specs.Forms.{Expected, and_next, or_next}
use Rattle.mw_parse.specs.declared.trees.Connective.{Connective}
use Rattle.mw_parse.specs.declared.trees.Connective.TheVariants.{And, Or}

abbrev pub level_of : Connective → Precedence
level_of And = conjunction
level_of Or = disjunction

-- what stands before it
abbrev pub operand_of : Connective → Precedence
operand_of And = comparison
operand_of Or = conjunction

abbrev pub sign_of : Connective → Expected
sign_of And = and_next
sign_of Or = or_next

abbrev pub connected : Connective → SurfaceTree → SurfaceTree → SurfaceTree
connected And l r = cond l r (truth false)
connected Or l r = cond l (truth true) r
