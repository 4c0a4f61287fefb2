use Rattle.mw_encode.proofs.Runs.{RunsLeft}
use Rattle.mw_encode.proofs.parts.put_runs.Given as goal

abbrev pub invariant-loop-at : goal.invariant-loop-at
invariant-loop-at l = RunsLeft l.list l.at l.kind l.count l.before l.out.items l.fn.out.items
