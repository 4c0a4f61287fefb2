use Rattle.mw_cache.proofs.HonestRecords.{files_grow}
use Rattle.mw_cache.proofs.laws.honest_files_grow.Goals as goal

pub returns : goal.returns
returns c = files_grow
