use Rattle.std.proofs.Common.{◌∙◌, List, ℕ, subst}
use Rattle.mw_drive.specs.Extents.{on_a_file}
use Rattle.mw_drive.specs.Running.{IsCarriedOut}
use Rattle.mw_drive.specs.Verdicts.{inquired}
use Rattle.mw_drive.proofs.CommandLemmas.{carried_memory}
use Rattle.mw_drive.proofs.CommandStatuses.{asked_read, asked_memory}
use Rattle.mw_drive.proofs.RunLemmas.{front_told}
use Rattle.mw_drive.proofs.inquiry.inquire.Goals as goal

pub returns-in-Ok-clause-work : goal.returns-in-Ok-clause-work
returns-in-Ok-clause-work g c = λ bytes has.
    let read = c.as_slice.ensures.value ∙ front_told c.in-Ok.bytes.items has c.in-Ok.ensures.ok in
    subst (λ (b : List ℕ). IsCarriedOut on_a_file (inquired c.args.inquiry b) c.write_answer.result g.K.Sink.tells
    (g.K.Sink.written c.args.sink.now) (g.K.Sink.written c.write_answer.new.sink)) read c.write_answer.ensures.work

pub returns-in-Err-Memory-clause-work : goal.returns-in-Err-Memory-clause-work
returns-in-Err-Memory-clause-work g c = λ bytes has. carried_memory on_a_file _ _ g.K.Sink.tells _

pub returns-in-Err-Failed-clause-possible : goal.returns-in-Err-Failed-clause-possible
returns-in-Err-Failed-clause-possible g c = asked_read c.args.inquiry

pub returns-in-Err-Memory-clause-possible : goal.returns-in-Err-Memory-clause-possible
returns-in-Err-Memory-clause-possible g c = asked_memory c.args.inquiry _
