use Rattle.mw_wasm.proofs.Soundness.{runs_are_sound}
use Rattle.mw_wasm.proofs.laws.soundness.runs_are_sound.Goals as goal

pub returns : goal.returns
returns c = runs_are_sound
