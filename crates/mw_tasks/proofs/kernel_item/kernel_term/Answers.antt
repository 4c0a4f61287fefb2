use Rattle.mw_tasks.proofs.Items.{kernel_part}
use Rattle.mw_tasks.proofs.kernel_item.kernel_term.Goals as goal

pub returns : goal.returns
returns c =
    kernel_part c.args.program.now c.get.result.now c.in-Kernel.field-0 c.in-Kernel.term c.args.number c.in-Kernel.is
    c.get.ensures
