use Rattle.std.proofs.Common.{◌++◌, ap, ◌∙◌}
use Rattle.mw_judge.specs.FileLines.{verdict_line}
use Rattle.mw_judge.specs.ModuleFiles.{IsBadFile}
use Rattle.mw_drive.proofs.Reports.{ok_then, bad_is, verdict_report, verdict_fault}
use Rattle.mw_drive.proofs.inquiry.verdict_of.Goals as goal

pub returns-in_ok-put_verdict-in-Ok : goal.returns-in_ok-put_verdict-in-Ok
returns-in_ok-put_verdict-in-Ok c =
    let w = c.in-Ok.ensures.judged in
    verdict_report c.status_of.result c.in-Ok.valid w.0 w.1 w.2
    (c.in_ok-put_verdict-in-Ok.ensures ∙ ap (λ t. t ++ verdict_line c.in-Ok.valid) c.new-text.ensures.items)
    c.status_of.ensures

pub returns-in-Err-Bad : goal.returns-in-Err-Bad
returns-in-Err-Bad c =
    let bad = bad_is (IsBadFile c.args.bytes.now) c.in-Err-Bad.field-0 c.in-Err-Bad.fault c.in-Err-Bad.field-0-is
    c.in-Err-Bad.ensures.bad in
    ok_then _ _ c.fault_of.result (λ a h. verdict_fault a.status c.in-Err-Bad.fault bad h.0 h.1) c.fault_of.ensures
