use Rattle.mw_wasm.proofs.ExecutionExamples.{empty_element_traps}
use Rattle.mw_wasm.proofs.laws.executions.empty_element_traps.Goals as goal

pub returns : goal.returns
returns c = empty_element_traps
