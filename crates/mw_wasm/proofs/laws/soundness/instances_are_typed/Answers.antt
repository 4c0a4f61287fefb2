use Rattle.mw_wasm.proofs.InstanceTypes.{instances_are_typed}
use Rattle.mw_wasm.proofs.laws.soundness.instances_are_typed.Goals as goal

pub returns : goal.returns
returns c = instances_are_typed
