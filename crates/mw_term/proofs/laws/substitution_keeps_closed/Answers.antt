use Rattle.mw_term.proofs.ClosedTerms.{substitute-closed}
use Rattle.mw_term.proofs.laws.substitution_keeps_closed.Goals as goal

pub returns : goal.returns
returns c = substitute-closed
