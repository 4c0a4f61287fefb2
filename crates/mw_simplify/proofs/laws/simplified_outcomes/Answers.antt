use Rattle.mw_simplify.proofs.SimplifiedOutcomes.{items_stay, main_stays}
use Rattle.mw_simplify.proofs.laws.simplified_outcomes.Goals as goal

pub returns : goal.returns
returns c = record { items = items_stay; main = main_stays }
