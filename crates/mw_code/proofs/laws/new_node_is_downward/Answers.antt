use Rattle.mw_code.proofs.AddedNodes.{IsDownward_push}
use Rattle.mw_code.proofs.laws.new_node_is_downward.Goals as goal

pub returns : goal.returns
returns c = IsDownward_push
