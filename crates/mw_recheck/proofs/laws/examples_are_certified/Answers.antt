use Rattle.mw_recheck.proofs.Rows.{certified_examples}
use Rattle.mw_recheck.proofs.laws.examples_are_certified.Goals as goal

pub returns : goal.returns
returns c = certified_examples
