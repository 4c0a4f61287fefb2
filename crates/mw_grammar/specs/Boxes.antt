-- The views of what is read in boxes.
use Rattle.std.specs.Global.{Box}
use Rattle.mw_grammar.specs.declared.tree.Tree.{Tree}
use Rattle.mw_grammar.specs.SurfaceTrees.{SurfaceTree, tree_of}
use Rattle.mw_grammar.specs.Grammar.{Abstraction, abstract, Definition, define}
use Rattle.mw_grammar.specs.declared.parts.Function.{Function}
use Rattle.mw_grammar.specs.declared.parts.Defined.{Defined}

abbrev pub tree_in : Box Tree → SurfaceTree
tree_in b = tree_of b.value

abbrev pub function_in : Function → Abstraction
function_in f = abstract f.name f.from (tree_in f.tree)

abbrev pub definition_in : Defined → Definition
definition_in d = define d.from (tree_in d.tree)
