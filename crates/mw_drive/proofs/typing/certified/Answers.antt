use Rattle.std.proofs.Common.{subst}
use Rattle.mw_term.specs.Programs.{program_of}
use Rattle.mw_term.specs.Stops.{IfRefused}
use Rattle.mw_infer.specs.Checking.{IsFirstRefusal}
use Rattle.mw_drive.proofs.Certificates.{certificate_report, untyped_certificate}
use Rattle.mw_drive.proofs.Reports.{ok_then}
use Rattle.mw_drive.proofs.typing.certified.Goals as goal

pub returns-in_ok-text-in-Ok : goal.returns-in_ok-text-in-Ok
returns-in_ok-text-in-Ok c = λ bytes read.
    certificate_report bytes c.args.program.now read c.in_ok-text-in-Ok.text.items c.in-Ok.ensures.typable
    c.in-Ok.ensures.small c.in_ok-text-in-Ok.ensures.written

pub returns-in-Err-Refused : goal.returns-in-Err-Refused
returns-in-Err-Refused c = λ bytes read.
    let is = subst (IfRefused (IsFirstRefusal (program_of c.args.program.now))) c.in-Err-Refused.field-0-is
    c.in-Err-Refused.ensures.refused in
    ok_then _ _ c.refused.result
    (λ a h. untyped_certificate bytes c.args.program.now read _ a.status c.in-Err-Refused.refusal is h.0
    (rw c.as_slice.ensures at h.1))
    c.refused.ensures
