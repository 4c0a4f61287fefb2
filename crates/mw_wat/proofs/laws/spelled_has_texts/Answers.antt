use Rattle.mw_wat.proofs.Ranges.{spelled_has_texts}
use Rattle.mw_wat.proofs.laws.spelled_has_texts.Goals as goal

pub returns : goal.returns
returns c = λ bytes m p w. spelled_has_texts bytes m p w
