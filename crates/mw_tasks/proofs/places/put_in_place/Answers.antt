use Rattle.std.proofs.Common.{arith}
use Rattle.std.proofs.lemmas.List.Elements.{All-same}
use Rattle.std.specs.Vec.Iter.{into_iter_items}
use Rattle.mw_tasks.specs.Taking.{IsDoneIn, IsTakenIn}
use Rattle.mw_tasks.proofs.WorkerResults.{next_has_place, next_put}
use Rattle.mw_tasks.proofs.places.put_in_place.Goals as goal

pub loop-at-init : goal.loop-at-init
loop-at-init c = record {
  left = All-same (IsTakenIn c.args.job.now)
      (into_iter_items c.into_iter-at-iterator.result) c.args.taken.items
      c.into_iter-at-iterator.ensures.into_iter_gives.0 c.requires.taken;
  places = c.requires.places;
}

pub index_mut-requires : goal.index_mut-requires
index_mut-requires c =
    let job = c.args.job.now in
    let less = next_has_place (IsDoneIn job) job.numbers.now c.loop-at.places.items c.loop-at.invariant.places
    (into_iter_items c.loop-at.at-iterator) (into_iter_items c.next.new.self) c.in-Some.field-0
    c.in-Some.ensures.steps.0 c.loop-at.invariant.left in
    let long = c.loop-at.places.ok.0 in
    omega (arith, less, long)

pub loop-at-preserved-in-Some : goal.loop-at-preserved-in-Some
loop-at-preserved-in-Some c =
    let job = c.args.job.now in
    let put = next_put (IsDoneIn job) job.numbers.now c.loop-at.places.items c.loop-at.invariant.places
    (into_iter_items c.loop-at.at-iterator) (into_iter_items c.next.new.self) c.in-Some.field-0
    c.in-Some.ensures.steps.0 c.loop-at.invariant.left in
    record { left = put.0; places = put.1 }

pub loop-at-preserved-in-Some-2 : goal.loop-at-preserved-in-Some-2
loop-at-preserved-in-Some-2 c =
    let job = c.args.job.now in
    let put = next_put (IsDoneIn job) job.numbers.now c.loop-at.places.items c.loop-at.invariant.places
    (into_iter_items c.loop-at.at-iterator) (into_iter_items c.next.new.self) c.in-Some.field-0
    c.in-Some.ensures.steps.0 c.loop-at.invariant.left in
    record { left = put.0; places = put.1 }

pub loop-at-preserved-in-Some-3 : goal.loop-at-preserved-in-Some-3
loop-at-preserved-in-Some-3 c =
    let job = c.args.job.now in
    let put = next_put (IsDoneIn job) job.numbers.now c.loop-at.places.items c.loop-at.invariant.places
    (into_iter_items c.loop-at.at-iterator) (into_iter_items c.next.new.self) c.in-Some.field-0
    c.in-Some.ensures.steps.0 c.loop-at.invariant.left in
    record { left = put.0; places = put.1 }

pub loop-at-preserved : goal.loop-at-preserved
loop-at-preserved c =
    let job = c.args.job.now in
    let put = next_put (IsDoneIn job) job.numbers.now c.loop-at.places.items c.loop-at.invariant.places
    (into_iter_items c.loop-at.at-iterator) (into_iter_items c.next.new.self) c.in-Some.field-0
    c.in-Some.ensures.steps.0 c.loop-at.invariant.left in
    record { left = put.0; places = put.1 }
