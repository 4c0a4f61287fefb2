use Rattle.mw_written.proofs.CompletedTypes.{completed_ordered}
use Rattle.mw_written.proofs.laws.completed_are_ordered.Goals as goal

pub returns : goal.returns
returns c = completed_ordered
