use Rattle.mw_cache.proofs.HonestRecords.{fronts_honest}
use Rattle.mw_cache.proofs.laws.fronts_are_honest.Goals as goal

pub returns : goal.returns
returns c = fronts_honest
