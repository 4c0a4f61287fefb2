use Rattle.mw_wasm.proofs.MemoryRows.{growth_rows}
use Rattle.mw_wasm.proofs.laws.rows.growth_rows.Goals as goal

pub returns : goal.returns
returns c = growth_rows
