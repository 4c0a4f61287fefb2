use Rattle.std.specs.List.{All}
use Rattle.mw_tasks.specs.Taking.{IsTakenIn}
use Rattle.mw_tasks.proofs.job.taken_by_one.Given as goal

abbrev pub invariant-loop-turn : goal.invariant-loop-turn
invariant-loop-turn g l = All (IsTakenIn l.job) l.taken.items
