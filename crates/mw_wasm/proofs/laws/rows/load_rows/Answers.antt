use Rattle.mw_wasm.proofs.MemoryRows.{load_rows}
use Rattle.mw_wasm.proofs.laws.rows.load_rows.Goals as goal

pub returns : goal.returns
returns c = load_rows
