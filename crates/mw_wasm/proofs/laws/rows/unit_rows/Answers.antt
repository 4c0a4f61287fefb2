use Rattle.mw_wasm.proofs.ControlRows.{unit_rows}
use Rattle.mw_wasm.proofs.laws.rows.unit_rows.Goals as goal

pub returns : goal.returns
returns c = unit_rows
