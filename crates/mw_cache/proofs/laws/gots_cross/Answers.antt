use Rattle.mw_cache.proofs.SendSync.{got_send, got_sync}
use Rattle.mw_cache.proofs.laws.gots_cross.Goals as goal

pub returns-clause-send : goal.returns-clause-send
returns-clause-send c = got_send c.entries_cross.ensures.send c.entries_cross.ensures.sync

pub returns-clause-sync : goal.returns-clause-sync
returns-clause-sync c = got_sync c.entries_cross.ensures.send c.entries_cross.ensures.sync
