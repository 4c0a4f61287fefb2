use Rattle.mw_code.proofs.UnsharedTerms.{Stands-expression_at}
use Rattle.mw_code.proofs.laws.code_is_its_term.Goals as goal

pub returns : goal.returns
returns c = Stands-expression_at
