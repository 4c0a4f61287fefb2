use Rattle.std.proofs.Common.{◌≡◌, ◌≤◌, ◌+◌, drop}
use Rattle.mw_meaning.specs.ErasedPrograms.{kernels_in}
use Rattle.mw_meaning.specs.NewNames.{definitions}
use Rattle.mw_meaning.proofs.program.kernel_count.Given as goal

abbrev pub invariant-loop-item : goal.invariant-loop-item
invariant-loop-item l = record {
  counted : l.count + kernels_in (definitions (drop l.item-index l.items)) ≡ kernels_in (definitions l.items);
  most : l.count ≤ l.item-index;
}
