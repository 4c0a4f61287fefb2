use Rattle.std.specs.List.{All}
use Rattle.std.specs.Vec.Iter.{into_iter_items}
use Rattle.mw_tasks.specs.Taking.{IsTakenIn, AreInPlace}
use Rattle.mw_tasks.proofs.places.in_order.Given as goal

abbrev pub invariant-loop-some : goal.invariant-loop-some
invariant-loop-some g l = record {
  left : All (λ some. All (IsTakenIn l.job) some.items)
      (into_iter_items l.some-iterator);
  places : AreInPlace l.job l.places.items;
}
