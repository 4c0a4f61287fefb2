use Rattle.mw_recheck.proofs.Rows.{own_line}
use Rattle.mw_recheck.proofs.laws.own_line_names.Goals as goal

pub returns : goal.returns
returns c = own_line
