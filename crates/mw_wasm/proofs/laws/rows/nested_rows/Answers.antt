use Rattle.mw_wasm.proofs.ControlRows.{nested_rows}
use Rattle.mw_wasm.proofs.laws.rows.nested_rows.Goals as goal

pub returns : goal.returns
returns c = nested_rows
