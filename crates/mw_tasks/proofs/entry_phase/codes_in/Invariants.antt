use Rattle.std.proofs.Common.{◌≡◌, ◌++◌}
use Rattle.std.proofs.Math.ListN.{drop}
use Rattle.mw_machine.specs.CodesInPlace.{expressions_of}
use Rattle.mw_tasks.specs.Phases.{codes_in}
use Rattle.mw_tasks.proofs.entry_phase.codes_in.Given as goal

abbrev pub invariant-loop-outcome : goal.invariant-loop-outcome
invariant-loop-outcome l = codes_in l.outcomes
    ≡ expressions_of l.codes.items ++ codes_in (drop l.outcome-index l.outcomes)
