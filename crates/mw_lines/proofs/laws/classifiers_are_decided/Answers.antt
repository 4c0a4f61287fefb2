use Rattle.mw_lines.proofs.Candidates.{classifier_absent, absent_classifier}
use Rattle.mw_lines.proofs.laws.classifiers_are_decided.Goals as goal

pub returns : goal.returns
returns c a t = (classifier_absent a t, absent_classifier a t)
