use Rattle.mw_wasm.proofs.ControlExamples.{indirect_rows}
use Rattle.mw_wasm.proofs.laws.executions.indirect_rows.Goals as goal

pub returns : goal.returns
returns c = indirect_rows
