use Rattle.mw_recheck.proofs.CertificateDecision.{certifies_decided}
use Rattle.mw_recheck.proofs.laws.certifies_is_decided.Goals as goal

pub returns : goal.returns
returns c = certifies_decided
