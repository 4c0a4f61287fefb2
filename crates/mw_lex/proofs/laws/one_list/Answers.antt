use Rattle.mw_lex.proofs.OneAnswer.{one_list}
use Rattle.mw_lex.proofs.laws.one_list.Goals as goal

pub returns : goal.returns
returns c = one_list
