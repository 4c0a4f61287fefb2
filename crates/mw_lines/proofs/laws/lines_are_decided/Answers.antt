use Rattle.mw_lines.proofs.NamedTypes.{lines_decided}
use Rattle.mw_lines.proofs.laws.lines_are_decided.Goals as goal

pub returns : goal.returns
returns c = lines_decided
