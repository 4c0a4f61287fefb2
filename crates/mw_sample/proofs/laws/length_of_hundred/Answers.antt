use Rattle.std.proofs.Common.{refl}
use Rattle.std.specs.Fmt.{digits}
use Rattle.mw_sample.proofs.laws.length_of_hundred.Goals as goal

pub returns : goal.returns
unfolding digits
returns c = refl
