use Rattle.mw_term.proofs.ClosedTerms.{ClosedBelow-shift}
use Rattle.mw_term.proofs.laws.shift_raises_free.Goals as goal

pub returns : goal.returns
returns c = ClosedBelow-shift
