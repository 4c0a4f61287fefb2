use Rattle.mw_term.proofs.ClosedTerms.{shift-closed}
use Rattle.mw_term.proofs.laws.shift_keeps_closed.Goals as goal

pub returns : goal.returns
returns c = shift-closed
