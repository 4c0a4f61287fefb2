use Rattle.mw_wasm.proofs.FormatCuts.{minus_one_is_spelled}
use Rattle.mw_wasm.proofs.laws.format.minus_one_is_spelled.Goals as goal

pub returns : goal.returns
returns c = minus_one_is_spelled
