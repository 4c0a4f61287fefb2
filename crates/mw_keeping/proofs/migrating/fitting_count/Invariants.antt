use Rattle.std.proofs.Common.{◌≡◌, ◌++◌, List, map, take, drop}
use Rattle.mw_store.specs.Records.{Kept, record_bytes}
use Rattle.mw_keeping.specs.KeptFiles.{fitting}
use Rattle.mw_keeping.proofs.migrating.fitting_count.Given as goal

abbrev pub invariant-loop-at : goal.invariant-loop-at
invariant-loop-at l = (ks : List Kept) → l.records ≡ map record_bytes ks
    → fitting l.room ks ≡ take l.at ks ++ fitting l.left (drop l.at ks)
