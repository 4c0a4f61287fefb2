use Rattle.std.proofs.Common.{◌≡◌, ◌≤◌, ◌++◌, drop}
use Rattle.mw_meaning.specs.ErasedPrograms.{kernels_in}
use Rattle.mw_meaning.specs.NewNames.{new_names, definitions}
use Rattle.mw_meaning.proofs.program.names_of.Given as goal

abbrev pub invariant-loop-item : goal.invariant-loop-item
invariant-loop-item l = record {
  behind : kernels_in (definitions (drop l.item-index l.items)) ≡ l.count.behind;
  names : l.names.items ++ new_names (definitions (drop l.item-index l.items)) l.count.lets
      ≡ new_names (definitions l.items) 0;
  lets : l.count.lets ≤ l.item-index;
}
