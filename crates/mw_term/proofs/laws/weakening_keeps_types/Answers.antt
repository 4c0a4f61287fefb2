use Rattle.mw_term.proofs.Weakening.{Typed-under}
use Rattle.mw_term.proofs.laws.weakening_keeps_types.Goals as goal

pub returns : goal.returns
returns c = λ tops g x m e t h. Typed-under tops x g m e t h
