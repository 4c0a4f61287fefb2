use Rattle.mw_written.proofs.TypesNamed.{completed_named}
use Rattle.mw_written.proofs.laws.completed_are_named.Goals as goal

pub returns : goal.returns
returns c = completed_named
