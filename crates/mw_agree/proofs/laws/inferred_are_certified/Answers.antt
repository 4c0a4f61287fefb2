use Rattle.mw_agree.proofs.ProgramCertificates.{inferred_certified as proof}
use Rattle.mw_agree.proofs.laws.inferred_are_certified.Goals as goal

pub returns : goal.returns
returns c = proof
