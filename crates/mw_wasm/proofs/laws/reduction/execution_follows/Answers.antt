use Rattle.mw_wasm.proofs.ExecutionLaw.{execution_is}
use Rattle.mw_wasm.proofs.laws.reduction.execution_follows.Goals as goal

pub returns : goal.returns
returns c = execution_is
