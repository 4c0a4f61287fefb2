use Rattle.mw_term.proofs.Substitution.{substitute-shift}
use Rattle.mw_term.proofs.laws.substitution_undoes_shift.Goals as goal

pub returns : goal.returns
returns c = substitute-shift
