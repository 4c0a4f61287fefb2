use Rattle.mw_wasm.proofs.ControlExamples.{segment_rows}
use Rattle.mw_wasm.proofs.laws.executions.segment_rows.Goals as goal

pub returns : goal.returns
returns c = segment_rows
