use Rattle.mw_literals.proofs.SourceLiterals.{source_literals}
use Rattle.mw_literals.proofs.laws.sources.Goals as goal

pub returns : goal.returns
returns c = source_literals
