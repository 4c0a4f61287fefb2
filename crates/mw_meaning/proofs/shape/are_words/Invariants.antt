use Rattle.mw_meaning.proofs.Shapes.{WordsBefore}
use Rattle.mw_meaning.proofs.shape.are_words.Given as goal

abbrev pub invariant-loop-kind : goal.invariant-loop-kind
invariant-loop-kind l = WordsBefore l.kind-index l.types
