use Rattle.mw_section.proofs.RepeatedWrites.{once}
use Rattle.mw_section.proofs.laws.written_once.Goals as goal

pub returns : goal.returns
returns c = once
