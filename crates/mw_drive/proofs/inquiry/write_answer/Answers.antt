use Rattle.mw_drive.proofs.CommandStatuses.{reported_for}
use Rattle.mw_drive.proofs.inquiry.write_answer.Goals as goal

pub returns-in-Ok-write_lines-clause-possible : goal.returns-in-Ok-write_lines-clause-possible
returns-in-Ok-write_lines-clause-possible g c =
    reported_for c.args.inquiry c.args.bytes.now c.in-Ok.answer.text.items c.in-Ok.answer.status c.in-Ok.ensures
