use Rattle.mw_types.specs.Answering.{TreesTo}
use Rattle.mw_types.proofs.answer.answer.Given as goal

abbrev pub invariant-loop-unknown : goal.invariant-loop-unknown
invariant-loop-unknown l = TreesTo l.state l.names.items l.roots.items l.trees.items l.unknown
