use Rattle.mw_section.proofs.LaterWrites.{only_adds}
use Rattle.mw_section.proofs.laws.writing_only_adds.Goals as goal

pub returns : goal.returns
returns c = only_adds
