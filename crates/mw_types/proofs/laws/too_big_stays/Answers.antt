use Rattle.mw_types.proofs.Faults.{too_big_stays}
use Rattle.mw_types.proofs.laws.too_big_stays.Goals as goal

pub returns : goal.returns
returns c = too_big_stays
