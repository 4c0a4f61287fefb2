use Rattle.mw_drive.proofs.DigestOfTheOne.{digest_of_the_one}
use Rattle.mw_drive.proofs.laws.digest_of_the_one.Goals as goal

pub returns : goal.returns
returns c = digest_of_the_one
