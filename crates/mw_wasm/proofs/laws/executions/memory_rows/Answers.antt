use Rattle.mw_wasm.proofs.ControlExamples.{memory_rows}
use Rattle.mw_wasm.proofs.laws.executions.memory_rows.Goals as goal

pub returns : goal.returns
returns c = memory_rows
