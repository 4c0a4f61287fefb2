-- What an item came to and what a worker took go to other threads, and the evaluation of a program's items may be
-- shared with them.
use denote.Param.Send.{IsSend, IsSync, sendable, shr_sync}
use denote.Param.SendFields.{declared_send, declared_sync, variants_send}
use denote.Ref.{NamedLft}
use Rattle.std.proofs.Crossing.{crosses}
use Rattle.mw_term.specs.contracts.program.Program as Program
use Rattle.mw_term.specs.contracts.term.Term as Term
use Rattle.mw_compile.specs.contracts.entry.Entry as Entry
use Rattle.mw_slots.proofs.SendSync.{receipts_send}
use Rattle.mw_cache.specs.contracts.asked.Asked as Asked
use Rattle.mw_cache.specs.contracts.cache.Cache as Cache
use Rattle.mw_cache.specs.contracts.got.Got as Got
use Rattle.mw_tasks.specs.contracts.job.Done as Done
use Rattle.mw_tasks.specs.contracts.job.Evaluation as Evaluation
use Rattle.mw_tasks.specs.contracts.job.Taken as Taken
use Rattle.mw_tasks.specs.contracts.outcome.ItemOutcome as Outcome

outcome_send : IsSend Term.the_row → IsSend Got.the_row → IsSend Outcome.the_row
outcome_send t g =
    variants_send Outcome.enum ((t, (g, tt)), ((search sendable depth 40, tt), ((search sendable depth 40, tt), tt)))

pub done_send : IsSend Term.the_row → IsSend Got.the_row → IsSend Asked.the_row → IsSend Done.the_row
done_send t g a = declared_send Done.the_type
    (outcome_send t g, (receipts_send Entry.the_row, (search sendable depth 40, (a, tt))))

pub taken_send : IsSend Done.the_row → IsSend Taken.the_row
taken_send d = declared_send Taken.the_type (search sendable depth 40, (d, tt))

pub evaluation_sync : IsSync Program.the_row → ((a : NamedLft) → IsSync (Cache.the_row a)) → (a b : NamedLft)
    → IsSync (Evaluation.the_row a b)
evaluation_sync p s a b =
    declared_sync (Evaluation.the_type a b) (
      search (p, shr_sync, sendable) depth 20,
      (
        search sendable depth 40,
        (
          search (crosses, shr_sync, sendable) depth 20,
          (search sendable depth 40, (search sendable depth 40, (search (s, shr_sync, sendable) depth 20, tt))),
        ),
      ),
    )
