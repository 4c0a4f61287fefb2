use Rattle.mw_wasm.proofs.ControlRows.{indirect_call_rows}
use Rattle.mw_wasm.proofs.laws.rows.indirect_call_rows.Goals as goal

pub returns : goal.returns
returns c = indirect_call_rows
