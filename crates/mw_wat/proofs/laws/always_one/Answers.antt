use Rattle.mw_wat.proofs.FirstBadPlaces.{one_of_both, never_both}
use Rattle.mw_wat.proofs.laws.always_one.Goals as goal

pub returns-clause-either : goal.returns-clause-either
returns-clause-either c = λ bytes. one_of_both bytes

pub returns-clause-never_both : goal.returns-clause-never_both
returns-clause-never_both c = λ bytes m at t w b. never_both bytes m at t w b
