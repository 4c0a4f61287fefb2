use Rattle.mw_cert.proofs.WrittenCertificates.{accepted_have_one as proof}
use Rattle.mw_cert.proofs.laws.accepted_have_one.Goals as goal

pub returns : goal.returns
returns c = proof
