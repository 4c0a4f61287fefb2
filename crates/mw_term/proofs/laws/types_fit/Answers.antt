use Rattle.mw_term.proofs.TypesFormed.{Typed-formed}
use Rattle.mw_term.proofs.laws.types_fit.Goals as goal

pub returns : goal.returns
returns c = λ tops g m e t f h. Typed-formed f h
