use Rattle.mw_decode.proofs.FaultsShown.{spells_none, shown}
use Rattle.mw_decode.proofs.laws.fault_is_shown.Goals as goal

pub returns : goal.returns
returns c = λ bytes f e. (spells_none bytes f e, shown bytes f e)
