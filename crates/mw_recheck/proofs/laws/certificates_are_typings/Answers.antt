use Rattle.mw_recheck.proofs.Programs.{certificates_are_typings}
use Rattle.mw_recheck.proofs.laws.certificates_are_typings.Goals as goal

pub returns : goal.returns
returns c = certificates_are_typings
