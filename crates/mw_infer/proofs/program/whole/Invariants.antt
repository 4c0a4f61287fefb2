use Rattle.std.proofs.Common.{◌≡◌, IsTrue, length, map}
use Rattle.mw_term.specs.Programs.{program_of}
use Rattle.mw_infer.specs.Progress.{Progress, AreNodesBefore}
use Rattle.mw_infer.specs.Typings.{facts_of_part}
use Rattle.mw_infer.specs.Views.{tops_of}
use Rattle.mw_infer.proofs.program.whole.Given as goal

abbrev pub invariant-loop-item : goal.invariant-loop-item
invariant-loop-item l = record {
  progress : Progress (program_of l.program) l.item-index (tops_of l.names.items);
  names : length l.names.items ≡ l.item-index;
  told : IsTrue l.with_nodes → AreNodesBefore (program_of l.program) l.item-index (map facts_of_part l.parts.items);
}
