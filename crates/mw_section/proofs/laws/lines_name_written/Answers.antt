use Rattle.mw_section.proofs.NamedTypes.{name_written}
use Rattle.mw_section.proofs.laws.lines_name_written.Goals as goal

pub returns : goal.returns
returns c = name_written
