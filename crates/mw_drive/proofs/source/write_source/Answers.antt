use Rattle.std.proofs.Common.{map, inr, Err, refl, subst}
use Rattle.mw_drive.specs.HeldFiles.{IsKeptOf}
use Rattle.mw_drive.specs.Works.{mode_of, run_text}
use Rattle.mw_drive.proofs.HeldFiles.{held_failed, held_refused}
use Rattle.mw_drive.proofs.OpenedFiles.{opened_refused}
use Rattle.mw_drive.proofs.RunFaults.{bad_maps}
use Rattle.mw_drive.proofs.SourceWritten.{written_nothing, refusal_written, resolved, few_items, types_written}
use Rattle.mw_drive.proofs.SourceWritten.{run_written, erased_written, linked_written, may_be_linked, few_nodes}
use Rattle.mw_drive.proofs.SourceWritten.{run_kernels, bad_written, refused_kept}
use Rattle.mw_drive.proofs.PrintedKernels.{printed_refused}
use Rattle.mw_drive.proofs.source.write_source.Goals as goal

pub returns-in-Err-Refused-clause-meaning : goal.returns-in-Err-Refused-clause-meaning
returns-in-Err-Refused-clause-meaning g c = λ honest.
    refusal_written c.args.bytes.now c.args.fuel c.args.evaluation c.in-Err-Refused.field-0-is
    c.in-Err-Refused.ensures.refused c.write_refusal.ensures.status c.write_refusal.ensures.usual
    c.write_refusal.ensures.writes

pub returns-in-Err-Memory-clause-meaning : goal.returns-in-Err-Memory-clause-meaning
returns-in-Err-Memory-clause-meaning g c = λ honest.
    rw c.from.ensures (written_nothing c.args.bytes.now c.args.fuel c.args.evaluation _)

pub ensure_typed-requires : goal.ensure_typed-requires
ensure_typed-requires g c = resolved c.in-Ok.program c.in-Ok.ensures.found

pub returns-in-Err-Refused-ensure_typed-clause-meaning : goal.returns-in-Err-Refused-ensure_typed-clause-meaning
returns-in-Err-Refused-ensure_typed-clause-meaning g c = λ honest.
    let written = c.write_refusal-in-Err-Refused-ensure_typed.ensures in
    types_written c.args.bytes.now c.args.fuel c.args.evaluation c.in-Ok.program c.in-Ok.ensures.found
    c.in-Err-Refused-ensure_typed.field-0-is c.in-Err-Refused-ensure_typed.ensures.refused written.status written.usual
    (rw c.as_slice.ensures at written.writes)

pub returns-in-Err-Memory-ensure_typed-clause-meaning : goal.returns-in-Err-Memory-ensure_typed-clause-meaning
returns-in-Err-Memory-ensure_typed-clause-meaning g c = λ honest.
    rw c.from-in-Err-Memory-ensure_typed.ensures (written_nothing c.args.bytes.now c.args.fuel c.args.evaluation _)

pub write_run-requires-clause-few : goal.write_run-requires-clause-few
write_run-requires-clause-few g c = λ κs live. few_items c.in-Ok.program c.in-Ok.ensures.found

pub write_run-requires-clause-workers : goal.write_run-requires-clause-workers
write_run-requires-clause-workers g c = λ κs live. (rw c.in-Run.is at c.requires.possible).0

pub write_run-requires-clause-totals : goal.write_run-requires-clause-totals
write_run-requires-clause-totals g c = λ κs live. (rw c.in-Run.is at c.requires.possible).1

pub returns-in-Run-clause-meaning : goal.returns-in-Run-clause-meaning
returns-in-Run-clause-meaning g c =
    rw c.in-Run.is (λ honest. run_written c.in-Ok.program c.in-Ok.ensures.found c.in-Ok-ensure_typed.ensures.typable
    c.in-Ok-ensure_typed.ensures.small (c.write_run.ensures.run honest))

pub write_erased-requires-clause-nodes : goal.write_erased-requires-clause-nodes
write_erased-requires-clause-nodes g c = few_nodes c.in-Ok.program c.in-Ok.ensures.found

pub returns-in-Erased-clause-meaning : goal.returns-in-Erased-clause-meaning
returns-in-Erased-clause-meaning g c =
    rw c.in-Erased.is (λ honest. erased_written c.in-Ok.program c.in-Ok.ensures.found
    c.in-Ok-ensure_typed.ensures.typable c.in-Ok-ensure_typed.ensures.small c.write_erased.ensures.run)

pub write_linked-requires-clause-workers : goal.write_linked-requires-clause-workers
write_linked-requires-clause-workers g c = λ κs live. rw c.in-Linked.is at c.requires.possible

pub write_linked-requires-clause-linkable : goal.write_linked-requires-clause-linkable
write_linked-requires-clause-linkable g c = λ κs live.
    may_be_linked c.in-Ok.program c.in-Ok.ensures.found c.in-Ok-ensure_typed.ensures.typable
    c.in-Ok-ensure_typed.ensures.small c.args.fuel

pub returns-in-Linked-clause-meaning : goal.returns-in-Linked-clause-meaning
returns-in-Linked-clause-meaning g c =
    rw c.in-Linked.is (λ honest. linked_written c.in-Ok.program c.in-Ok.ensures.found
    c.in-Ok-ensure_typed.ensures.typable c.in-Ok-ensure_typed.ensures.small c.write_linked.ensures.run)

pub returns-in-Err-Refused-clause-held : goal.returns-in-Err-Refused-clause-held
returns-in-Err-Refused-clause-held g c = λ some tells.
    held_refused c.write_refusal.result c.in-Err-Refused.refusal _ _ c.write_refusal.ensures.status refl

pub returns-in-Err-Refused-clause-kept : goal.returns-in-Err-Refused-clause-kept
returns-in-Err-Refused-clause-kept g c = λ some honest shown kernels e means.
    refused_kept c.write_refusal.result c.in-Err-Refused.refusal _ _ _
    (returns-in-Err-Refused-clause-meaning g c honest) c.write_refusal.ensures.status means

pub returns-in-Err-Memory-clause-held : goal.returns-in-Err-Memory-clause-held
returns-in-Err-Memory-clause-held g c = λ some tells. held_failed (Err c.from.result) _ _ refl refl

pub returns-in-Err-Refused-ensure_typed-clause-held : goal.returns-in-Err-Refused-ensure_typed-clause-held
returns-in-Err-Refused-ensure_typed-clause-held g c = λ some tells.
    held_refused c.write_refusal-in-Err-Refused-ensure_typed.result c.in-Err-Refused-ensure_typed.refusal _ _
    c.write_refusal-in-Err-Refused-ensure_typed.ensures.status refl

pub returns-in-Err-Refused-ensure_typed-clause-kept : goal.returns-in-Err-Refused-ensure_typed-clause-kept
returns-in-Err-Refused-ensure_typed-clause-kept g c = λ some honest shown kernels e means.
    refused_kept c.write_refusal-in-Err-Refused-ensure_typed.result c.in-Err-Refused-ensure_typed.refusal _ _ _
    (returns-in-Err-Refused-ensure_typed-clause-meaning g c honest)
    c.write_refusal-in-Err-Refused-ensure_typed.ensures.status means

pub returns-in-Err-Memory-ensure_typed-clause-held : goal.returns-in-Err-Memory-ensure_typed-clause-held
returns-in-Err-Memory-ensure_typed-clause-held g c = λ some tells.
    held_failed (Err c.from-in-Err-Memory-ensure_typed.result) _ _ refl refl

pub returns-in-Run-clause-kept : goal.returns-in-Run-clause-kept
returns-in-Run-clause-kept g c =
    rw c.in-Run.is (λ some honest shown kernels e means.
    let r = run_kernels c.in-Ok.program c.in-Ok.ensures.found means in
    subst (λ s. IsKeptOf (map (run_text (mode_of s)) kernels) c.write_run.result
    (g.C.Keeper.held c.args.keeper.now) (g.C.Keeper.held c.write_run.new.keeper)) r.0
    (c.write_run.ensures.kept some honest kernels e r.1))

pub returns-in-Run-clause-bad : goal.returns-in-Run-clause-bad
returns-in-Run-clause-bad g c =
    rw c.in-Run.is (bad_maps c.write_run.result _ _
    (λ d h tells. bad_written c.in-Ok.program c.in-Ok.ensures.found c.in-Ok-ensure_typed.ensures.typable
    c.in-Ok-ensure_typed.ensures.small (h tells)) c.write_run.ensures.bad)

pub returns-in-Err-Refused-clause-printed : goal.returns-in-Err-Refused-clause-printed
returns-in-Err-Refused-clause-printed g c = λ some tells.
    printed_refused c.write_refusal.result c.in-Err-Refused.refusal _ _ _ _ _ c.write_refusal.ensures.status

pub returns-in-Err-Refused-ensure_typed-clause-printed : goal.returns-in-Err-Refused-ensure_typed-clause-printed
returns-in-Err-Refused-ensure_typed-clause-printed g c = λ some tells.
    printed_refused c.write_refusal-in-Err-Refused-ensure_typed.result c.in-Err-Refused-ensure_typed.refusal _ _ _ _ _
    c.write_refusal-in-Err-Refused-ensure_typed.ensures.status

pub returns-in-Err-Refused-clause-opened : goal.returns-in-Err-Refused-clause-opened
returns-in-Err-Refused-clause-opened g c = λ path is tells.
    opened_refused path.now _ _ c.write_refusal.result c.in-Err-Refused.refusal c.write_refusal.ensures.status
    (inr refl)

pub returns-in-Err-Refused-ensure_typed-clause-opened : goal.returns-in-Err-Refused-ensure_typed-clause-opened
returns-in-Err-Refused-ensure_typed-clause-opened g c = λ path is tells.
    opened_refused path.now _ _ c.write_refusal-in-Err-Refused-ensure_typed.result c.in-Err-Refused-ensure_typed.refusal
    c.write_refusal-in-Err-Refused-ensure_typed.ensures.status (inr refl)
