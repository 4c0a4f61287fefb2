use Rattle.mw_meaning.proofs.Shapes.{Seeking}
use Rattle.mw_meaning.proofs.shape.function_index.Given as goal

abbrev pub invariant-loop-export : goal.invariant-loop-export
invariant-loop-export l = Seeking l.name l.export-index l.exports
