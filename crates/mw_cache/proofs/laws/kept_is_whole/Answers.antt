use Rattle.mw_cache.proofs.HonestRecords.{kept_whole}
use Rattle.mw_cache.proofs.laws.kept_is_whole.Goals as goal

pub returns : goal.returns
returns c = kept_whole
