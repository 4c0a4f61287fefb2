use Rattle.std.proofs.Common.{◌≡◌, length}
use Rattle.std.specs.Vec.Iter.{into_iter_items, into_iter_len}
use Rattle.mw_tasks.proofs.Outputs.{IsGathered}
use Rattle.mw_tasks.proofs.gathering.gathered.Given as goal

abbrev pub invariant-loop-done : goal.invariant-loop-done
invariant-loop-done g l = record {
  gathered : IsGathered l.fn.all.items (into_iter_items l.done-iterator) l.outcomes l.kept l.emitted l.asked;
  left : into_iter_len l.done-iterator ≡ length (into_iter_items l.done-iterator);
}
