use Rattle.std.proofs.Common.{◌∙◌, subst}
use Rattle.mw_outside.specs.Lookup.{file_of}
use Rattle.mw_console.specs.Reading.{IsFront}
use Rattle.mw_drive.specs.Extents.{on_a_file}
use Rattle.mw_drive.specs.Running.{most_of_certificate}
use Rattle.mw_drive.proofs.Certificates.{carried_of}
use Rattle.mw_drive.proofs.CommandLemmas.{carried_memory, carried_read}
use Rattle.mw_drive.proofs.RunLemmas.{front_told}
use Rattle.mw_drive.proofs.typing.recheck.Goals as goal

pub returns-in-Err-Failed-clause-work : goal.returns-in-Err-Failed-clause-work
returns-in-Err-Failed-clause-work g c = λ bytes text here there. carried_read _ g.K.Sink.tells _

pub returns-in-Err-Memory-clause-work : goal.returns-in-Err-Memory-clause-work
returns-in-Err-Memory-clause-work g c = λ bytes text here there. carried_memory on_a_file _ _ g.K.Sink.tells _

pub returns-in-Err-Failed-file_bytes-clause-work :
    goal.returns-in-Err-Failed-file_bytes-clause-work
returns-in-Err-Failed-file_bytes-clause-work g c = λ bytes text here there. carried_read _ g.K.Sink.tells _

pub returns-in-Err-Memory-file_bytes-clause-work :
    goal.returns-in-Err-Memory-file_bytes-clause-work
returns-in-Err-Memory-file_bytes-clause-work g c = λ bytes text here there.
    carried_memory on_a_file _ _ g.K.Sink.tells _

pub returns-clause-work : goal.returns-clause-work
returns-clause-work g c = λ bytes text here there.
    let read = c.as_slice.ensures.value ∙ front_told c.in-Ok.bytes.items here c.in-Ok.ensures.ok in
    let held = c.as_slice-2.ensures.value ∙ front_told c.in-Ok-file_bytes.text.items there
    (λ told. subst (λ files. IsFront most_of_certificate (file_of files c.args.certificate.now)
    c.in-Ok-file_bytes.text.items) c.file_bytes.ensures.same_files (c.in-Ok-file_bytes.ensures.ok told)) in
    carried_of held read c.write_answer.ensures.work
