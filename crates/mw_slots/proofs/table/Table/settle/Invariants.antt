use Rattle.std.proofs.Common.{◌≤◌, ◌-◌, vec_len, vec_capacity}
use Rattle.mw_slots.specs.Receipts.{AllOther}
use Rattle.mw_slots.specs.Witnesses.{all_shown}
use Rattle.mw_slots.proofs.table.Table.settle.Given as goal

abbrev pub invariant-slots : goal.invariant-slots
invariant-slots g l = record {
  count : vec_len l.passed ≤ 16;
  room : 16 ≤ vec_capacity l.passed;
  others : AllOther g.E.Named.name_of l.self l.start l.name (all_shown l.passed.items);
}

abbrev pub decreases-slots : goal.decreases-slots
decreases-slots g l = 16 - vec_len l.passed
