use Rattle.mw_meaning.proofs.StrayModules.{standing_is_not_stray}
use Rattle.mw_meaning.proofs.laws.standing.standing_is_not_stray.Goals as goal

pub returns : goal.returns
returns c = standing_is_not_stray
