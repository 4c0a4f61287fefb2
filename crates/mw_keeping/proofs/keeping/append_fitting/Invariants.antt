use Rattle.std.proofs.Common.{◌≡◌, ◌++◌, List, map, take, drop, IsTrue}
use Rattle.mw_store.specs.Records.{Kept, record_bytes, file_of}
use Rattle.mw_keeping.specs.KeptFiles.{fitting}
use Rattle.mw_keeping.proofs.keeping.append_fitting.Given as goal

abbrev pub invariant-loop-at : goal.invariant-loop-at
invariant-loop-at g l = record {
  fit : (ks : List Kept) → l.records ≡ map record_bytes ks
      → fitting l.room ks ≡ take l.at ks ++ fitting l.left (drop l.at ks);
  added : (ks : List Kept) → l.records ≡ map record_bytes ks → IsTrue g.C.Keeper.tells
      → g.C.Keeper.held l.keeper ≡ g.C.Keeper.held l.fn.keeper ++ file_of (take l.at ks);
  names : IsTrue g.C.Keeper.tells → g.C.Keeper.opened l.keeper ≡ g.C.Keeper.opened l.fn.keeper;
  count : g.C.Keeper.faults l.keeper ≡ g.C.Keeper.faults l.fn.keeper;
}
