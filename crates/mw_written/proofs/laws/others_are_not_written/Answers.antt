use Rattle.mw_written.proofs.Rows.{other_examples}
use Rattle.mw_written.proofs.laws.others_are_not_written.Goals as goal

pub returns : goal.returns
returns c = other_examples
