use Rattle.mw_wat.proofs.Rows.{texts}
use Rattle.mw_wat.proofs.laws.examples_have_texts.Goals as goal

pub returns : goal.returns
returns c = texts
