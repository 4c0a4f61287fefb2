use Rattle.mw_infer.proofs.Items.{item-within}
use Rattle.mw_infer.proofs.laws.equations_are_own.Goals as goal

pub returns : goal.returns
returns c = item-within
