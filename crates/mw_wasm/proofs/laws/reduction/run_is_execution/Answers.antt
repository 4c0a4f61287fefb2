use Rattle.mw_wasm.proofs.RunIsExecution.{run_is_execution}
use Rattle.mw_wasm.proofs.laws.reduction.run_is_execution.Goals as goal

pub returns : goal.returns
returns c = run_is_execution
