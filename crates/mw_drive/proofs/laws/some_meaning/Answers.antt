use Rattle.mw_drive.proofs.SomeMeaning.{some_meaning}
use Rattle.mw_drive.proofs.laws.some_meaning.Goals as goal

pub returns : goal.returns
returns c = some_meaning
