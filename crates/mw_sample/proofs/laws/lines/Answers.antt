use Rattle.mw_sample.proofs.LineLemmas.{lines_of_source, last_line_ends}
use Rattle.mw_sample.proofs.laws.lines.Goals as goal

pub returns : goal.returns
returns c = record { number = lines_of_source; end = last_line_ends }
