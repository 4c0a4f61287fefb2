use Rattle.mw_cache.proofs.HonestRecords.{honest_front}
use Rattle.mw_cache.proofs.laws.honest_front.Goals as goal

pub returns : goal.returns
returns c = honest_front
