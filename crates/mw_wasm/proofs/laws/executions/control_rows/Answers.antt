use Rattle.mw_wasm.proofs.ControlExamples.{control_rows}
use Rattle.mw_wasm.proofs.laws.executions.control_rows.Goals as goal

pub returns : goal.returns
returns c = control_rows
