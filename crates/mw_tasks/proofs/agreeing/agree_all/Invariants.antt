use Rattle.mw_tasks.specs.Agreeing.{FirstAgree}
use Rattle.mw_tasks.proofs.agreeing.agree_all.Given as goal

abbrev pub invariant-loop-at : goal.invariant-loop-at
invariant-loop-at l = FirstAgree l.outcomes l.at
