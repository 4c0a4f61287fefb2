use Rattle.mw_wasm.proofs.FormatCuts.{six_bytes_are_no_index}
use Rattle.mw_wasm.proofs.laws.format.six_bytes_are_no_index.Goals as goal

pub returns : goal.returns
returns c = six_bytes_are_no_index
