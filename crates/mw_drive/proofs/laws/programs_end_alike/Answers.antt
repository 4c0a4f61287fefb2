use Rattle.mw_drive.proofs.SimplifiedPrograms.{programs_end_alike}
use Rattle.mw_drive.proofs.laws.programs_end_alike.Goals as goal

pub returns : goal.returns
returns c = programs_end_alike
