use Rattle.mw_wasm.proofs.ControlRows.{plain_rows}
use Rattle.mw_wasm.proofs.laws.rows.plain_rows.Goals as goal

pub returns : goal.returns
returns c = plain_rows
