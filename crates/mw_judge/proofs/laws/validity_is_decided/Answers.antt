use Rattle.mw_judge.proofs.ValidityDecision.{validity_is_decided}
use Rattle.mw_judge.proofs.laws.validity_is_decided.Goals as goal

pub returns : goal.returns
returns c = λ m. validity_is_decided m
