use Rattle.mw_term.proofs.Substitution.{size-substitute}
use Rattle.mw_term.proofs.laws.substitution_keeps_size.Goals as goal

pub returns : goal.returns
returns c = size-substitute
