use Rattle.std.proofs.Common.{arith}
use Rattle.std.proofs.lemmas.List.{length-map}
use Rattle.mw_reading.specs.NamedPrograms.{item_of, named_program_of}
use Rattle.mw_drive.specs.ItemOutcomes.{HasOneForEach, ArePlaced}
use Rattle.mw_drive.proofs.Loops.{named, named_there, let_at, kernel_at, reaches_first, reaches_let, reaches_code}
use Rattle.mw_drive.proofs.Loops.{reaches_end, reaches_all, has_outcome}
use Rattle.mw_drive.proofs.items.items_end.Goals as goal
use Rattle.mw_drive.proofs.items.items_end.Goals.{in-Kernel+in-Code+in_ok-push-in-Code, in_default}

pub loop-at-init : goal.loop-at-init
loop-at-init c =
    reaches_first (named_program_of c.args.program.now) c.args.outcomes.now c.new-built.result.items
    c.new-built.ensures.items
    (named (λ items. HasOneForEach items c.args.outcomes.now) c.args.program.now c.requires.each)

pub get-requires : goal.get-requires
get-requires c =
    has_outcome (named_there c.args.program.now c.get-item.result.now c.loop-at.at c.get-item.ensures)
    c.loop-at.invariant (kernel_at c.get-item.result.now c.in-Kernel.kind c.in-Kernel.field-1 c.in-Kernel.is)

pub returns-in-Ended-clause-run : goal.returns-in-Ended-clause-run
returns-in-Ended-clause-run c =
    reaches_end (named_there c.args.program.now c.get-item.result.now c.loop-at.at c.get-item.ensures)
    c.loop-at.invariant (kernel_at c.get-item.result.now c.in-Kernel.kind c.in-Kernel.field-1 c.in-Kernel.is)
    c.get.ensures c.item_end.result (rw c.as_slice.ensures at c.item_end.ensures.run) c.in-Ended.end c.in-Ended.is

pub returns-in-Ended-clause-built : goal.returns-in-Ended-clause-built
returns-in-Ended-clause-built c = λ mode cache placed.
    (c.loop-at.invariant.placed mode cache
    (named (λ items. ArePlaced mode cache items c.args.outcomes.now) c.args.program.now placed)).0

pub overflow_add-next : goal.overflow_add-next
overflow_add-next c = omega (arith, c.loop-at.invariant.behind, c.loop-at-test.true, c.len-at-end.type_inv)

pub loop-at-preserved : goal.loop-at-preserved
loop-at-preserved c =
    let there = named_there c.args.program.now c.get-item.result.now c.loop-at.at c.get-item.ensures in
    elim c.match-item.branch [
      | in-Kernel+in-Code+in_ok-push-in-Code w ↦
          rw (w.built-is, w.next-is)
          (reaches_code there c.loop-at.invariant
          (kernel_at c.get-item.result.now w.in-Kernel.kind w.in-Kernel.field-1 w.in-Kernel.is) w.get.ensures
          w.item_end.result (rw w.as_slice.ensures at w.item_end.ensures.run) w.in-Code.kernel w.push.new.self.items
          w.in-Code.is w.in_ok-push-in-Code.ensures.items w.item_end.ensures.built)
      | in_default w ↦
          rw (w.built-is, w.next-is)
          (reaches_let there c.loop-at.invariant (let_at c.get-item.result.now w.in_default.field-0 w.in_default.is))
    ]

pub returns-clause-run : goal.returns-clause-run
returns-clause-run c =
    reaches_all (omega (arith, length-map c.args.program.now.items item_of, c.len-at-end.ensures, c.loop-at-test.false))
    c.loop-at.invariant

pub returns-clause-built : goal.returns-clause-built
returns-clause-built c = λ mode cache placed.
    (c.loop-at.invariant.placed mode cache
    (named (λ items. ArePlaced mode cache items c.args.outcomes.now) c.args.program.now placed)).0
