use Rattle.mw_wasm.proofs.MemoryRows.{store_rows}
use Rattle.mw_wasm.proofs.laws.rows.store_rows.Goals as goal

pub returns : goal.returns
returns c = store_rows
