use Rattle.mw_cache.proofs.SendSync.{load_sync}
use Rattle.mw_cache.proofs.laws.loads_cross.Goals as goal

pub returns : goal.returns
returns c = load_sync c.valid_modules_cross.ensures.send c.valid_modules_cross.ensures.sync
