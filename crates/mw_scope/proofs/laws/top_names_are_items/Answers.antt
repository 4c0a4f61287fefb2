use Rattle.mw_scope.proofs.Nearest.{top_names_are_items}
use Rattle.mw_scope.proofs.laws.top_names_are_items.Goals as goal

pub returns : goal.returns
returns c = top_names_are_items
