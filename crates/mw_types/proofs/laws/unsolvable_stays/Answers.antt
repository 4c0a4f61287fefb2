use Rattle.mw_types.proofs.Faults.{unsolvable_stays}
use Rattle.mw_types.proofs.laws.unsolvable_stays.Goals as goal

pub returns : goal.returns
returns c = unsolvable_stays
