use Rattle.std.proofs.Common.{◌≡◌, ℕ, ◌<◌, List, Some}
use Rattle.std.specs.Prelude.{slice_get}
use Rattle.std.specs.List.{All}
use Rattle.mw_slots.specs.Receipts.{Known, IsOf}
use Rattle.mw_compile.specs.Entries.{Emitted}
use Rattle.mw_cache.specs.Received.{HasSlot}
use Rattle.mw_cache.proofs.kept.KeptReceipts.keep_each.Given as goal

abbrev pub invariant-loop-at : goal.invariant-loop-at
invariant-loop-at l = record {
  kept : (k : ℕ) (r : Known Emitted) → k < l.at → slice_get l.more k ≡ Some r → HasSlot l.self r.slot;
  stay : (slot : ℕ) → HasSlot l.fn.self slot → HasSlot l.self slot;
  table : (cells : List ℕ) → All (IsOf cells) l.more → All (IsOf cells) l.fn.self → All (IsOf cells) l.self;
}
