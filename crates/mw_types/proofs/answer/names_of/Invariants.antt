use Rattle.mw_types.specs.Answering.{NamedTo}
use Rattle.mw_types.proofs.answer.names_of.Given as goal

abbrev pub invariant-loop-class : goal.invariant-loop-class
invariant-loop-class l = NamedTo l.parent l.names.items l.class
