use Rattle.mw_agree.proofs.ProgramCertificates.{no_code_under_code as proof}
use Rattle.mw_agree.proofs.laws.no_code_under_code.Goals as goal

pub returns : goal.returns
returns c = proof
