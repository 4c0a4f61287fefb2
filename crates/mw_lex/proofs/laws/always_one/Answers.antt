use Rattle.mw_lex.proofs.StepsOn.{either}
use Rattle.mw_lex.proofs.laws.always_one.Goals as goal

pub returns : goal.returns
returns c = either
