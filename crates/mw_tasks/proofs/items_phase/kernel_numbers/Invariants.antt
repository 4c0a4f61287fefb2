use Rattle.std.proofs.Common.{◌≡◌, ◌++◌}
use Rattle.std.proofs.Math.ListN.{drop}
use Rattle.mw_term.specs.Programs.{program_of}
use Rattle.mw_tasks.specs.Phases.{kernel_numbers}
use Rattle.mw_tasks.proofs.items_phase.kernel_numbers.Given as goal

abbrev pub invariant-loop-at : goal.invariant-loop-at
invariant-loop-at l =
    kernel_numbers 0 (program_of l.program).items
    ≡ l.numbers.items ++ kernel_numbers l.at (drop l.at (program_of l.program).items)
