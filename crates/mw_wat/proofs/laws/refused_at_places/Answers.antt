use Rattle.mw_wat.proofs.Rows.{places}
use Rattle.mw_wat.proofs.laws.refused_at_places.Goals as goal

pub returns : goal.returns
returns c = places
