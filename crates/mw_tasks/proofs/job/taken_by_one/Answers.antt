use Rattle.std.proofs.Common.{length, refl, sym}
use Rattle.std.proofs.lemmas.Bool.{ltb-true}
use Rattle.std.proofs.lemmas.Option.{slice_get_read}
use Rattle.mw_term.specs.Programs.{program_of}
use Rattle.mw_machine.proofs.Lists.{all_at}
use Rattle.mw_tasks.specs.Phases.{IsTask}
use Rattle.mw_tasks.specs.Taking.{IsDoneIn}
use Rattle.mw_tasks.proofs.WorkerResults.{taken_more}
use Rattle.mw_tasks.proofs.job.taken_by_one.Goals as goal

pub evaluated_alone-requires : goal.evaluated_alone-requires
evaluated_alone-requires g c =
    let numbers = c.args.job.now.numbers.now in
    let found = c.in-Some.ensures.lookup in
    record {
      task =
          all_at (IsTask (program_of c.args.job.now.program.now)) numbers c.fetch_add-at.result c.in-Some.number.now
          c.requires
          (slice_get_read numbers (length numbers) c.fetch_add-at.result c.in-Some.number.now refl
          (ltb-true _ _ (sym found.0)) found.1);
    }

pub loop-turn-preserved : goal.loop-turn-preserved
loop-turn-preserved g c =
    let job = c.args.job.now in
    let found = c.in-Some.ensures.lookup in
    taken_more (IsDoneIn job) job.numbers.now c.loop-turn.taken.items c.add_taken.new.taken.items
    c.fetch_add-at.result c.in_ok-done.done c.in-Some.number.now c.in_ok-add_taken.ensures
    (slice_get_read job.numbers.now (length job.numbers.now) c.fetch_add-at.result c.in-Some.number.now refl
    (ltb-true _ _ (sym found.0)) found.1)
    c.in_ok-done.ensures.done c.loop-turn.invariant
