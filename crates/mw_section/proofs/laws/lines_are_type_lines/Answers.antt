use Rattle.mw_section.proofs.NamedTypes.{are_type_lines}
use Rattle.mw_section.proofs.laws.lines_are_type_lines.Goals as goal

pub returns : goal.returns
returns c = are_type_lines
