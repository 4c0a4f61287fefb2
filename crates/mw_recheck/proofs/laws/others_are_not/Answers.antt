use Rattle.mw_recheck.proofs.Rows.{others}
use Rattle.mw_recheck.proofs.laws.others_are_not.Goals as goal

pub returns : goal.returns
returns c = others
