use Rattle.std.proofs.Common.{◌≡◌, length}
use Rattle.mw_term.specs.Programs.{program_of}
use Rattle.mw_infer.specs.Progress.{Progress}
use Rattle.mw_infer.specs.Views.{tops_of}
use Rattle.mw_infer.proofs.faults.first_fault.Given as goal

abbrev pub invariant-loop-item : goal.invariant-loop-item
invariant-loop-item l = record {
  progress : Progress (program_of l.program) l.item-index (tops_of l.names.items);
  names : length l.names.items ≡ l.item-index;
}
