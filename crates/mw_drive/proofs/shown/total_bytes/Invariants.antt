use Rattle.std.proofs.Common.{◌≡◌, ◌≤◌, ◌*◌, take}
use Rattle.mw_drive.specs.Works.{module_bytes}
use Rattle.mw_drive.specs.ProgramRuns.{kernels_of}
use Rattle.mw_drive.proofs.shown.total_bytes.Given as goal

abbrev pub invariant-loop-at : goal.invariant-loop-at
invariant-loop-at l = record {
  total : l.total ≡ module_bytes (kernels_of (take l.at l.kernels));
  small : l.total ≤ l.at * 4294967295;
}
