use Rattle.mw_code.proofs.UnsharedTerms.{at_node}
use Rattle.mw_code.proofs.laws.term_by_form.Goals as goal

pub returns : goal.returns
returns c = at_node
