use Rattle.mw_written.proofs.OneProgram.{written_certify}
use Rattle.mw_written.proofs.laws.written_certify.Goals as goal

pub returns : goal.returns
returns c = written_certify
