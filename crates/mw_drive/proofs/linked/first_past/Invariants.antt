use Rattle.std.proofs.Common.{◌≡◌, ◌≤◌, [], take, drop}
use Rattle.mw_drive.specs.LinkedPrograms.{first_past, functions_of}
use Rattle.mw_drive.specs.ProgramRuns.{kernels_of}
use Rattle.mw_drive.proofs.linked.first_past.Given as goal

abbrev pub invariant-loop-kernel : goal.invariant-loop-kernel
invariant-loop-kernel l = record {
  past :
      first_past [] (kernels_of l.built)
      ≡ first_past (kernels_of (take l.kernel-index l.built)) (kernels_of (drop l.kernel-index l.built));
  so_far : l.sum ≡ functions_of (kernels_of (take l.kernel-index l.built));
  few : l.sum ≤ 100_000;
}
