use Rattle.mw_wat.proofs.Rows.{read}
use Rattle.mw_wat.proofs.laws.examples_are_read.Goals as goal

pub returns : goal.returns
returns c = read
