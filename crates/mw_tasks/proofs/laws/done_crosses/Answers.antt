use Rattle.mw_tasks.proofs.SendSync.{done_send}
use Rattle.mw_tasks.proofs.laws.done_crosses.Goals as goal

pub returns : goal.returns
returns c = done_send c.terms_cross.ensures.send c.gots_cross.ensures.send c.asked_crosses.ensures
