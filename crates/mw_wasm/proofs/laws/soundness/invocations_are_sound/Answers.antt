use Rattle.mw_wasm.proofs.Soundness.{invocations_are_sound}
use Rattle.mw_wasm.proofs.laws.soundness.invocations_are_sound.Goals as goal

pub returns : goal.returns
returns c = invocations_are_sound
