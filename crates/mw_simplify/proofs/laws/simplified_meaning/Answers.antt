use Rattle.mw_simplify.proofs.SimplifiedMeaning.{keeps_meaning}
use Rattle.mw_simplify.proofs.laws.simplified_meaning.Goals as goal

pub returns : goal.returns
returns c = keeps_meaning
