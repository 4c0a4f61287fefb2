use Rattle.mw_term.proofs.ClosedTerms.{ClosedBelow-substitute}
use Rattle.mw_term.proofs.laws.substitution_lowers_free.Goals as goal

pub returns : goal.returns
returns c = ClosedBelow-substitute
