use Rattle.mw_lines.proofs.Candidates.{making_decided}
use Rattle.mw_lines.proofs.laws.making_is_decided.Goals as goal

pub returns : goal.returns
returns c = making_decided
