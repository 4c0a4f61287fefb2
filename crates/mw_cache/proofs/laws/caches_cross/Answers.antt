use Rattle.mw_cache.proofs.SendSync.{cache_sync}
use Rattle.mw_cache.proofs.laws.caches_cross.Goals as goal

pub returns : goal.returns
returns c = cache_sync c.entries_cross.ensures.send c.entries_cross.ensures.sync c.loads_cross.ensures
