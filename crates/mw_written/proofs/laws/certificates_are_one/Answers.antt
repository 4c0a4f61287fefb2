use Rattle.mw_written.proofs.OneProgram.{certificates_one}
use Rattle.mw_written.proofs.laws.certificates_are_one.Goals as goal

pub returns : goal.returns
returns c = certificates_one
