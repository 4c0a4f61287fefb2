use Rattle.mw_lines.proofs.OneLine.{one_line}
use Rattle.mw_lines.proofs.laws.one_line.Goals as goal

pub returns : goal.returns
returns c = one_line
