use Rattle.std.proofs.Common.{refl}
use Rattle.std.specs.Fmt.{digits}
use Rattle.mw_sample.proofs.laws.two_kernels.Goals as goal

pub returns : goal.returns
unfolding digits
returns c = refl
