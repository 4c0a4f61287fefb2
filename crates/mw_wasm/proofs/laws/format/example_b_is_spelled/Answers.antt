use Rattle.mw_wasm.proofs.FormatCuts.{example_b_is_spelled}
use Rattle.mw_wasm.proofs.laws.format.example_b_is_spelled.Goals as goal

pub returns : goal.returns
returns c = example_b_is_spelled
