use Rattle.mw_wat.proofs.FirstBadPlaces.{answered_is_first}
use Rattle.mw_wat.proofs.laws.stops_at_first_bad_place.Goals as goal

pub returns : goal.returns
returns c = λ bytes at e. answered_is_first bytes at e
