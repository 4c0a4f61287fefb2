use Rattle.mw_wasm.proofs.FormatCuts.{longer_index_is_spelled}
use Rattle.mw_wasm.proofs.laws.format.longer_index_is_spelled.Goals as goal

pub returns : goal.returns
returns c = longer_index_is_spelled
