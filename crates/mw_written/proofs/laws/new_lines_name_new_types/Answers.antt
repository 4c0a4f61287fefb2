use Rattle.mw_written.proofs.NewLines.{new_lines}
use Rattle.mw_written.proofs.laws.new_lines_name_new_types.Goals as goal

pub returns : goal.returns
returns c = new_lines
