use Rattle.std.specs.List.{All}
use Rattle.std.specs.Vec.Iter.{into_iter_items}
use Rattle.mw_tasks.specs.Taking.{IsTakenIn, AreInPlace}
use Rattle.mw_tasks.proofs.places.put_in_place.Given as goal

abbrev pub invariant-loop-at : goal.invariant-loop-at
invariant-loop-at l = record {
  left : All (IsTakenIn l.job) (into_iter_items l.at-iterator);
  places : AreInPlace l.job l.places.items;
}
