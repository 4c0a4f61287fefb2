use Rattle.mw_tasks.proofs.SendSync.{taken_send}
use Rattle.mw_tasks.proofs.laws.taken_crosses.Goals as goal

pub returns : goal.returns
returns c = taken_send c.done_crosses.ensures
