use Rattle.mw_recheck.proofs.Rows.{one_classifier}
use Rattle.mw_recheck.proofs.laws.one_classifier_fits.Goals as goal

pub returns : goal.returns
returns c = one_classifier
