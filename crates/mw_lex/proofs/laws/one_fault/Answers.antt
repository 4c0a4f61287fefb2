use Rattle.mw_lex.proofs.OneAnswer.{one_first_fault}
use Rattle.mw_lex.proofs.laws.one_fault.Goals as goal

pub returns : goal.returns
returns c = one_first_fault
