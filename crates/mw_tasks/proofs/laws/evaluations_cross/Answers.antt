use Rattle.mw_tasks.proofs.SendSync.{evaluation_sync}
use Rattle.mw_tasks.proofs.laws.evaluations_cross.Goals as goal

pub returns : goal.returns
returns c = evaluation_sync c.programs_cross.ensures.sync c.caches_cross.ensures
