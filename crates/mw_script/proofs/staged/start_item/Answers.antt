use Rattle.mw_term.specs.Terms.{expression_of, kernel_type_of}
use Rattle.mw_machine.specs.Evaluations.{item, item_part}
use Rattle.mw_script.proofs.CheckedPrograms.{kernel_at}
use Rattle.mw_script.proofs.StartedMachines.{item_started}
use Rattle.mw_script.proofs.staged.start_item.Goals as goal

pub start-requires-clause-body : goal.start-requires-clause-body
start-requires-clause-body c = (
  item c.args.place,
  item_part c.args.place (kernel_type_of c.in-Kernel.field-0)
      (kernel_at c.args.program.now.items c.args.place c.get.result.now c.in-Kernel.field-0 c.in-Kernel.term
      c.get.ensures c.in-Kernel.is),
)

pub returns-in_ok-start-in-Kernel : goal.returns-in_ok-start-in-Kernel
returns-in_ok-start-in-Kernel c =
    item_started c.args.program.now c.in_ok-start-in-Kernel.field-0 c.args.fuel c.args.place
    (kernel_type_of c.in-Kernel.field-0)
    (expression_of c.in-Kernel.term)
    (kernel_at c.args.program.now.items c.args.place c.get.result.now c.in-Kernel.field-0 c.in-Kernel.term c.get.ensures
    c.in-Kernel.is)
    c.in_ok-start-in-Kernel.ensures.begins
