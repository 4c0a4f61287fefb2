use Rattle.mw_drive.proofs.OneMeaning.{one_meaning}
use Rattle.mw_drive.proofs.laws.one_meaning.Goals as goal

pub returns : goal.returns
returns c = one_meaning
