use Rattle.mw_cache.proofs.MigratedRecords.{migrated_new}
use Rattle.mw_cache.proofs.laws.migrated_are_new.Goals as goal

pub returns : goal.returns
returns c = migrated_new
