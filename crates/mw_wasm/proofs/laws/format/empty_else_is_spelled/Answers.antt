use Rattle.mw_wasm.proofs.FormatCuts.{empty_else_is_spelled}
use Rattle.mw_wasm.proofs.laws.format.empty_else_is_spelled.Goals as goal

pub returns : goal.returns
returns c = empty_else_is_spelled
