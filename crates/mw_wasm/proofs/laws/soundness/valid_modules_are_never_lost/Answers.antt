use Rattle.mw_wasm.proofs.InstanceTypes.{valid_modules_are_never_lost}
use Rattle.mw_wasm.proofs.laws.soundness.valid_modules_are_never_lost.Goals as goal

pub returns : goal.returns
returns c = valid_modules_are_never_lost
