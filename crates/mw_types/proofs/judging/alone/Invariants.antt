use Rattle.mw_types.specs.Judged.{AreAlone}
use Rattle.mw_types.proofs.judging.alone.Given as goal

abbrev pub invariant-loop-number : goal.invariant-loop-number
invariant-loop-number l = AreAlone l.number l.parent.items
