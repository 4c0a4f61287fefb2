use Rattle.mw_term.specs.Programs.{program_of}
use Rattle.mw_recheck.proofs.CertificateDecision.{yes, no, items_small, body_small}
use Rattle.mw_recheck.proofs.holds.Goals as goal

pub follow-requires-clause-items : goal.follow-requires-clause-items
follow-requires-clause-items c = items_small (program_of c.args.program.now) c.requires

pub follow-requires-clause-body : goal.follow-requires-clause-body
follow-requires-clause-body c = body_small (program_of c.args.program.now) c.requires

pub returns-in-Ok : goal.returns-in-Ok
returns-in-Ok c = yes c.args.cert.now (program_of c.args.program.now) c.in-Ok.ensures

pub returns-in-Err-Wrong : goal.returns-in-Err-Wrong
returns-in-Err-Wrong c =
    no c.args.cert.now (program_of c.args.program.now) (rw c.in-Err-Wrong.field-0-is at c.in-Err-Wrong.ensures)
