use Rattle.mw_written.proofs.Rows.{written_examples}
use Rattle.mw_written.proofs.laws.examples_are_written.Goals as goal

pub returns : goal.returns
returns c = written_examples
