use Rattle.mw_made.proofs.CertificateSections.{made_written as proof}
use Rattle.mw_made.proofs.laws.made_are_written.Goals as goal

pub returns : goal.returns
returns c = proof
