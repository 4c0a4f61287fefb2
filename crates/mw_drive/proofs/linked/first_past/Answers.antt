use Rattle.std.proofs.Common.{arith}
use Rattle.mw_drive.proofs.KernelsToLink.{few_more}
use Rattle.mw_drive.proofs.ListFronts.{got}
use Rattle.mw_drive.proofs.linked.first_past.Goals as goal

pub overflow_add-sum : goal.overflow_add-sum
overflow_add-sum c =
    let few =
    few_more c.args.built.now c.loop-kernel.kernel-index c.kernel-item.result c.requires.limits
    (got c.args.built.now c.loop-kernel.kernel-index c.kernel-item.result c.loop-kernel-test.true c.kernel-item.is)
    c.loop-kernel.sum c.functions-sum.result c.loop-kernel.invariant.few c.functions-sum.ensures.count in
    omega (arith, few)
