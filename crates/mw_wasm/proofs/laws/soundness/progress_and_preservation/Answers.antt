use Rattle.mw_wasm.proofs.Preservation.{progress_and_preservation}
use Rattle.mw_wasm.proofs.laws.soundness.progress_and_preservation.Goals as goal

pub returns : goal.returns
returns c = progress_and_preservation
