use Rattle.mw_term.proofs.Substitution.{size-shift}
use Rattle.mw_term.proofs.laws.shift_keeps_size.Goals as goal

pub returns : goal.returns
returns c = size-shift
