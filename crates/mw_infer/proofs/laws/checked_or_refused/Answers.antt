use Rattle.mw_infer.proofs.Deciding.{checked_or_refused}
use Rattle.mw_infer.proofs.laws.checked_or_refused.Goals as goal

pub returns : goal.returns
returns c = checked_or_refused
