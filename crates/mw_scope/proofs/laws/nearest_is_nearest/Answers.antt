use Rattle.mw_scope.proofs.Nearest.{nearest_is_nearest}
use Rattle.mw_scope.proofs.laws.nearest_is_nearest.Goals as goal

pub returns : goal.returns
returns c = nearest_is_nearest
