use Rattle.mw_wasm.proofs.RunLaw.{run_is}
use Rattle.mw_wasm.proofs.laws.reduction.run_follows.Goals as goal

pub returns : goal.returns
returns c = run_is
