use Rattle.mw_term.proofs.Substitution.{shift-shift}
use Rattle.mw_term.proofs.laws.shifts_commute.Goals as goal

pub returns : goal.returns
returns c = shift-shift
