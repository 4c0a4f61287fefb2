use Rattle.mw_recheck.proofs.Programs.{certified_are_typable}
use Rattle.mw_recheck.proofs.laws.certified_are_typable.Goals as goal

pub returns : goal.returns
returns c = certified_are_typable
