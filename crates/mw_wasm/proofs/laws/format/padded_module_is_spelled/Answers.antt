use Rattle.mw_wasm.proofs.FormatCuts.{padded_module_is_spelled}
use Rattle.mw_wasm.proofs.laws.format.padded_module_is_spelled.Goals as goal

pub returns : goal.returns
returns c = padded_module_is_spelled
