use Rattle.mw_types.proofs.Faults.{fine_before}
use Rattle.mw_types.proofs.laws.fine_before.Goals as goal

pub returns : goal.returns
returns c = fine_before
