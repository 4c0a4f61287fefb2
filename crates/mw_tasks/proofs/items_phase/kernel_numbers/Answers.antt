use Rattle.std.proofs.Common.{Some, ap, ◌∙◌}
use Rattle.mw_term.specs.Terms.{expression_of, kernel_type_of}
use Rattle.mw_term.specs.Programs.{program_of, definition_of}
use Rattle.mw_tasks.proofs.Items.{defined_there}
use Rattle.mw_tasks.proofs.ListWalks.{kernel_noted, let_noted}
use Rattle.mw_tasks.proofs.items_phase.kernel_numbers.Goals.{in-Kernel+in_ok-push-in-Kernel, in-Value}
use Rattle.mw_tasks.proofs.items_phase.kernel_numbers.Goals as goal

pub loop-at-preserved : goal.loop-at-preserved
loop-at-preserved c =
    let there = defined_there c.args.program.now c.get.result.now c.loop-at.at c.get.ensures in
    let items = (program_of c.args.program.now).items in
    elim c.match-get.branch [
      | in-Kernel+in_ok-push-in-Kernel w ↦
          kernel_noted items c.loop-at.at c.loop-at.numbers.items c.match-get.numbers.items c.loop-at.invariant
          (kernel_type_of w.in-Kernel.field-0) (expression_of w.in-Kernel.field-1)
          (there ∙ ap (λ kind. Some (definition_of kind)) w.in-Kernel.is)
          (rw w.numbers-is w.in_ok-push-in-Kernel.ensures.items)
      | in-Value w ↦
          let_noted items c.loop-at.at c.loop-at.numbers.items c.match-get.numbers.items c.loop-at.invariant
          (expression_of w.in-Value.field-0)
          (there ∙ ap (λ kind. Some (definition_of kind)) w.in-Value.is) (ap (λ numbers. numbers.items) w.numbers-is)
    ]
