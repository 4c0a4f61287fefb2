use Rattle.mw_lex.proofs.OneAnswer.{tokens_or_fault}
use Rattle.mw_lex.proofs.laws.never_both.Goals as goal

pub returns : goal.returns
returns c = tokens_or_fault
