use Rattle.mw_written.proofs.TypesNamed.{read_again}
use Rattle.mw_written.proofs.laws.read_again_adds_nothing.Goals as goal

pub returns : goal.returns
returns c = read_again
