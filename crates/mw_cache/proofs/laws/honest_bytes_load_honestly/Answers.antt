use Rattle.mw_cache.proofs.HonestRecords.{honest_load}
use Rattle.mw_cache.proofs.laws.honest_bytes_load_honestly.Goals as goal

pub returns : goal.returns
returns c = honest_load
