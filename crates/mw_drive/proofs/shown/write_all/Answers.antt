use Rattle.std.proofs.Common.{◌∙◌, arith}
use Rattle.mw_drive.specs.PrintedKernels.{printed_lines, printed_of}
use Rattle.mw_drive.specs.ProgramRuns.{IsBuilt, HasModuleHere, kernel_of}
use Rattle.mw_drive.specs.Works.{kernel_lines}
use Rattle.mw_drive.proofs.Faults.{front_written}
use Rattle.mw_drive.proofs.KernelLines.{lines_written, lines_front}
use Rattle.mw_drive.proofs.ListFronts.{all_at, got}
use Rattle.mw_drive.proofs.shown.write_all.Goals as goal

pub write_kernel-requires : goal.write_kernel-requires
write_kernel-requires g c =
    let here =
    got c.args.kernels.now c.loop-at.at c.index-kernels-at.result (omega (arith, c.loop-at-test.true))
    c.index-kernels-at.is in
    record {
      here = all_at (HasModuleHere c.args.cache.now) c.args.kernels.now c.loop-at.at c.index-kernels-at.result
          c.requires.here here;
    }

pub returns-in_err-write_kernel-clause-writes : goal.returns-in_err-write_kernel-clause-writes
returns-in_err-write_kernel-clause-writes g c honest mode built =
    let here =
    got c.args.kernels.now c.loop-at.at c.index-kernels-at.result (omega (arith, c.loop-at-test.true))
    c.index-kernels-at.is in
    let kernel =
    all_at (IsBuilt mode c.args.cache.now) c.args.kernels.now c.loop-at.at c.index-kernels-at.result built here in
    front_written _ c.from_residual.result g.K.Sink.tells _ _ _ c.from_residual.ensures.1
    (λ tells. lines_front kernel_of (kernel_lines mode) c.args.kernels.now c.loop-at.at c.index-kernels-at.result _ _ _
    here
    (c.loop-at.invariant.written honest mode built tells)
    (c.in_err-write_kernel.ensures.writes honest mode kernel tells))

pub returns-in_err-write_kernel-clause-printed : goal.returns-in_err-write_kernel-clause-printed
returns-in_err-write_kernel-clause-printed g c =
    let here =
    got c.args.kernels.now c.loop-at.at c.index-kernels-at.result (omega (arith, c.loop-at-test.true))
    c.index-kernels-at.is in
    front_written _ c.from_residual.result g.K.Sink.tells _ _ _ c.from_residual.ensures.1
    (λ tells. lines_front (printed_of c.args.cache.now) printed_lines c.args.kernels.now c.loop-at.at
    c.index-kernels-at.result _ _ _ here (c.loop-at.invariant.printed tells)
    (c.in_err-write_kernel.ensures.printed tells))

pub loop-at-preserved : goal.loop-at-preserved
loop-at-preserved g c =
    let here =
    got c.args.kernels.now c.loop-at.at c.index-kernels-at.result (omega (arith, c.loop-at-test.true))
    c.index-kernels-at.is in
    record {
      written = λ honest mode built tells.
          let kernel =
          all_at (IsBuilt mode c.args.cache.now) c.args.kernels.now c.loop-at.at c.index-kernels-at.result built here
          in
          lines_written kernel_of (kernel_lines mode) c.args.kernels.now c.loop-at.at c.index-kernels-at.result _ _ _
          here
          (c.loop-at.invariant.written honest mode built tells)
          (c.in_ok-write_kernel.ensures.writes honest mode kernel tells);
      printed = λ tells.
          lines_written (printed_of c.args.cache.now) printed_lines c.args.kernels.now c.loop-at.at
          c.index-kernels-at.result _ _ _ here (c.loop-at.invariant.printed tells)
          (c.in_ok-write_kernel.ensures.printed tells);
      count = c.in_ok-write_kernel.ensures.blames ∙ c.loop-at.invariant.count;
    }
