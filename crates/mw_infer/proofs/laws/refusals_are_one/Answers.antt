use Rattle.mw_infer.proofs.Refusals.{refusal-one}
use Rattle.mw_infer.proofs.laws.refusals_are_one.Goals as goal

pub returns : goal.returns
returns c = λ p q r written a b. refusal-one p written q r a b
