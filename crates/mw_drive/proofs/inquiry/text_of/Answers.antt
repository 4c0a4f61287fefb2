use Rattle.mw_judge.specs.ModuleFiles.{IsBadBinary}
use Rattle.mw_drive.proofs.Reports.{ok_then, bad_is, text_report, text_fault}
use Rattle.mw_drive.proofs.inquiry.text_of.Goals as goal

pub returns-in-Ok : goal.returns-in-Ok
returns-in-Ok c = let w = c.in-Ok.ensures.written in text_report w.0 w.1 w.2

pub returns-in-Err-Bad : goal.returns-in-Err-Bad
returns-in-Err-Bad c =
    let bad = bad_is (IsBadBinary c.args.bytes.now) c.in-Err-Bad.field-0 c.in-Err-Bad.fault c.in-Err-Bad.field-0-is
    c.in-Err-Bad.ensures.bad in
    ok_then _ _ c.fault_of.result (λ a h. text_fault a.status c.in-Err-Bad.fault bad h.0 h.1) c.fault_of.ensures
