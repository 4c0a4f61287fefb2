use Rattle.std.proofs.Common.{subst}
use Rattle.mw_term.specs.Stops.{IfRefused}
use Rattle.mw_reading.specs.SourceReading.{IsRefused}
use Rattle.mw_drive.proofs.Certificates.{unread_certificate}
use Rattle.mw_drive.proofs.Reports.{ok_then}
use Rattle.mw_drive.proofs.SourceWritten.{resolved}
use Rattle.mw_drive.proofs.typing.certificate_of.Goals as goal

pub certified-requires : goal.certified-requires
certified-requires c = resolved c.in-Ok.program c.in-Ok.ensures.found

pub returns-in-Err-Refused : goal.returns-in-Err-Refused
returns-in-Err-Refused c =
    let is = subst (IfRefused (IsRefused c.args.bytes.now)) c.in-Err-Refused.field-0-is
    c.in-Err-Refused.ensures.refused in
    ok_then _ _ c.refused.result (λ a h. unread_certificate a.status c.in-Err-Refused.refusal is h.0 h.1)
    c.refused.ensures
