use Rattle.mw_code.proofs.FreshBinders.{Stands-longer}
use Rattle.mw_code.proofs.laws.outer_binders_add.Goals as goal

pub returns : goal.returns
returns c = Stands-longer
