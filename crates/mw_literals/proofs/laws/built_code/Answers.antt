use Rattle.mw_literals.proofs.BuiltLiterals.{built_literals}
use Rattle.mw_literals.proofs.laws.built_code.Goals as goal

pub returns : goal.returns
returns c = built_literals
