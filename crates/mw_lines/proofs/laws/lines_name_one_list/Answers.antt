use Rattle.mw_lines.proofs.NamedTypes.{one_list}
use Rattle.mw_lines.proofs.laws.lines_name_one_list.Goals as goal

pub returns : goal.returns
returns c = one_list
