use Rattle.mw_general.proofs.General.{inferred_general}
use Rattle.mw_general.proofs.laws.inferred_are_general.Goals as goal

pub returns : goal.returns
returns c = inferred_general
