use Rattle.mw_wasm.proofs.ExecutionExamples.{store_out_of_bounds_traps}
use Rattle.mw_wasm.proofs.laws.executions.store_out_of_bounds_traps.Goals as goal

pub returns : goal.returns
returns c = store_out_of_bounds_traps
