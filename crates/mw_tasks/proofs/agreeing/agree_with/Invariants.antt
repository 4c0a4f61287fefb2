use Rattle.mw_tasks.specs.Agreeing.{AgreesWithFirst}
use Rattle.mw_tasks.proofs.agreeing.agree_with.Given as goal

abbrev pub invariant-loop-other : goal.invariant-loop-other
invariant-loop-other l = AgreesWithFirst l.outcomes l.at l.other
