use Rattle.std.proofs.Common.{◌≡◌, replicate, None, vec_capacity}
use Rattle.mw_tasks.proofs.places.empty_places.Given as goal

abbrev pub invariant-loop-place : goal.invariant-loop-place
invariant-loop-place l = record {
  items : l.places.items ≡ replicate l._place None;
  room : vec_capacity l.places ≡ l.count;
}
