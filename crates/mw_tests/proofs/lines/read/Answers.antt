use Rattle.mw_lines.proofs.StoredLines.{reading_known, still_reading}
use Rattle.mw_tests.proofs.lines.read.Goals as goal

pub loop-line-init : goal.loop-line-init
loop-line-init c = reading_known c.new-reader.result _ c.new-reader.ensures

pub loop-line-preserved : goal.loop-line-preserved
loop-line-preserved c =
    still_reading c.push.new.self c.in_ok-yes.yes _ _ c.in_ok-yes.ensures.added c.in_ok-yes.ensures.same
