use Rattle.std.proofs.Common.{◌≡◌, ◌≤◌, ◌+◌, take, length}
use Rattle.mw_cache.specs.Migrating.{AreMigrated}
use Rattle.mw_cache.proofs.migration.migration_of.Given as goal

abbrev pub invariant-loop-at : goal.invariant-loop-at
invariant-loop-at g l = record {
  migrated : AreMigrated l.load (take l.at l.load.records) l.old l.records;
  few : l.old ≤ l.at;
  most : (l.initial.steps ≤ l.steps) × (l.steps ≤ l.initial.steps + l.at);
  spent : l.steps ≡ l.initial.steps + length l.records;
}
