use Rattle.std.proofs.Common.{sym, ◌∙◌, arith}
use Rattle.mw_tasks.specs.Taking.{IsDoneIn}
use Rattle.mw_tasks.proofs.WorkerResults.{has_place, one_found, one_cleared, one_more}
use Rattle.mw_tasks.proofs.places.completed.Goals.{in-Some, in-None+in_ok-done-in-None}
use Rattle.mw_tasks.proofs.places.completed.Goals as goal

pub index_mut-requires : goal.index_mut-requires
index_mut-requires g c =
    let job = c.args.job.now in
    let less = has_place (IsDoneIn job) job.numbers.now c.loop-at.places.items c.loop-at.invariant.places
    c.loop-at.at c.loop-at-test.true in
    let long = c.loop-at.places.ok.0 in
    omega (arith, less, long)

pub loop-at-preserved : goal.loop-at-preserved
loop-at-preserved g c =
    let job = c.args.job.now in
    let R = IsDoneIn job in
    let places = c.loop-at.places.items in
    let at = c.loop-at.at in
    let less = c.loop-at-test.true in
    record {
      count = omega arith;
      room = omega arith;
      places = one_cleared R job.numbers.now places c.loop-at.invariant.places at c.take.new.self less
          c.take.ensures.after;
      outputs = one_more R job.numbers.now c.loop-at.all.items c.push_reserved.new.self.items at c.match-take.done less
          c.push_reserved.ensures.items c.loop-at.invariant.outputs
          (elim c.match-take.branch [
            | in-Some w ↦
                rw w.done-is
                (one_found R job.numbers.now places c.loop-at.invariant.places at c.index_mut.result.now
                w.in-Some.done less c.index_mut.ensures.value (sym c.take.ensures.value ∙ w.in-Some.is))
            | in-None+in_ok-done-in-None w ↦ rw w.done-is w.in_ok-done-in-None.ensures.done
          ]);
    }
