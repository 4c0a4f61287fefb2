use Rattle.mw_infer.proofs.Refusals.{typable-refused}
use Rattle.mw_infer.proofs.laws.typable_are_not_refused.Goals as goal

pub returns : goal.returns
returns c = λ p r written h small a. typable-refused p written r h small a
