use Rattle.mw_infer.proofs.Refusals.{faultless-typable, faultless-none_too_big}
use Rattle.mw_infer.proofs.laws.faultless_are_typable.Goals as goal

pub returns : goal.returns
returns c = λ p written h. (faultless-typable p written h, faultless-none_too_big p written h)
