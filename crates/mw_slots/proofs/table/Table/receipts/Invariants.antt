use Rattle.std.proofs.Common.{◌≡◌, ◌≤◌, vec_len, vec_capacity}
use Rattle.mw_slots.specs.Receipts.{AllTaken}
use Rattle.mw_slots.proofs.table.Table.receipts.Given as goal

abbrev pub invariant-loop-at : goal.invariant-loop-at
invariant-loop-at g l = record {
  count : vec_len l.items ≡ l.at;
  room : 16 ≤ vec_capacity l.items;
  full : AllTaken g.E.Named.name_of l.self l.start l.name l.items.items;
}
