use Rattle.std.proofs.Common.{◌≡◌, length, take, vec_len, vec_capacity}
use Rattle.std.specs.List.{AllZip}
use Rattle.mw_tasks.specs.Taking.{IsDoneIn, AreInPlace}
use Rattle.mw_tasks.proofs.places.completed.Given as goal

abbrev pub invariant-loop-at : goal.invariant-loop-at
invariant-loop-at g l = record {
  count : vec_len l.all ≡ l.at;
  room : vec_capacity l.all ≡ length l.job.numbers.now;
  places : AreInPlace l.job l.places.items;
  outputs : AllZip (IsDoneIn l.job) (take l.at l.job.numbers.now) l.all.items;
}
