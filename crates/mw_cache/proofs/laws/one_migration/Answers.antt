use Rattle.mw_cache.proofs.MigratedRecords.{one_migration}
use Rattle.mw_cache.proofs.laws.one_migration.Goals as goal

pub returns : goal.returns
returns c = one_migration
