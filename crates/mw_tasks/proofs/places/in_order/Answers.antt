use Rattle.std.proofs.lemmas.List.Elements.{All-same}
use Rattle.std.specs.List.{All}
use Rattle.std.specs.Vec.Iter.{into_iter_items}
use Rattle.mw_tasks.specs.Taking.{IsDoneIn, IsTakenIn}
use Rattle.mw_tasks.proofs.WorkerResults.{first_and_rest, all_empty}
use Rattle.mw_tasks.proofs.places.in_order.Goals as goal

pub loop-some-init : goal.loop-some-init
loop-some-init g c =
    let job = c.args.job.now in
    record {
      left = All-same (λ some. All (IsTakenIn job) some.items)
          (into_iter_items c.into_iter-some-iterator.result) c.args.taken.items
          c.into_iter-some-iterator.ensures.into_iter_gives.0 c.requires.taken;
      places = all_empty (IsDoneIn job) job.numbers.now c.in_ok-places.places.items c.in_ok-places.ensures;
    }

pub put_in_place-requires-clause-taken : goal.put_in_place-requires-clause-taken
put_in_place-requires-clause-taken g c =
    let job = c.args.job.now in
    (first_and_rest (λ some. All (IsTakenIn job) some.items)
    (into_iter_items c.loop-some.some-iterator) (into_iter_items c.next.new.self) c.in-Some.some
    c.in-Some.ensures.steps.0 c.loop-some.invariant.left).0

pub loop-some-preserved : goal.loop-some-preserved
loop-some-preserved g c =
    let job = c.args.job.now in
    record {
      left = (first_and_rest (λ some. All (IsTakenIn job) some.items)
          (into_iter_items c.loop-some.some-iterator) (into_iter_items c.next.new.self) c.in-Some.some
          c.in-Some.ensures.steps.0 c.loop-some.invariant.left).1;
      places = c.put_in_place.ensures;
    }
