use Rattle.mw_literals.proofs.SimplifiedLiterals.{simplified_literals}
use Rattle.mw_literals.proofs.laws.simplified_code.Goals as goal

pub returns : goal.returns
returns c = simplified_literals
