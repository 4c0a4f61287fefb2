use Rattle.std.proofs.Common.{arith}
use Rattle.mw_drive.proofs.KernelLines.{bytes_next}
use Rattle.mw_drive.proofs.ListFronts.{got}
use Rattle.mw_drive.proofs.shown.total_bytes.Goals as goal

pub loop-at-preserved : goal.loop-at-preserved
loop-at-preserved c =
    let here =
    got c.args.kernels.now c.loop-at.at c.index-kernels-at.result (omega (arith, c.loop-at-test.true))
    c.index-kernels-at.is in
    record {
      total =
          bytes_next c.args.kernels.now c.loop-at.at c.loop-at.total _ c.index-kernels-at.result here
          c.module_size-total.ensures.size c.loop-at.invariant.total;
      small = omega (arith, c.loop-at.invariant.small, c.module_size-total.ensures.small);
    }
