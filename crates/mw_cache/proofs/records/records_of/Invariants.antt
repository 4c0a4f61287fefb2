use Rattle.std.proofs.Common.{◌≡◌, ◌++◌, map}
use Rattle.std.specs.List.{AllByRecursion}
use Rattle.mw_store.specs.Records.{record_bytes}
use Rattle.mw_cache.specs.Gathering.{kept_at, IsShort}
use Rattle.mw_cache.proofs.records.records_of.Given as goal

abbrev pub invariant-loop-text : goal.invariant-loop-text
invariant-loop-text l = record {
  written : l.records ++ map record_bytes (map kept_at l.text-iterator)
      ≡ map record_bytes (map kept_at l.modules.entries);
  short : AllByRecursion IsShort (map kept_at l.text-iterator);
}
