use Rattle.mw_code.proofs.FreshBinders.{Stands-grows}
use Rattle.mw_code.proofs.laws.new_nodes_keep_code.Goals as goal

pub returns : goal.returns
returns c = Stands-grows
