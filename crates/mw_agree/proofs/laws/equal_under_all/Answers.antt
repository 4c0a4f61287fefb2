use Rattle.mw_agree.proofs.OneType.{equal_under_all as proof}
use Rattle.mw_agree.proofs.laws.equal_under_all.Goals as goal

pub returns : goal.returns
returns c = proof
