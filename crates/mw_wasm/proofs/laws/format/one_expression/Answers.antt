use Rattle.mw_wasm.proofs.FormatInstructions.{one_expression}
use Rattle.mw_wasm.proofs.laws.format.one_expression.Goals as goal

pub returns : goal.returns
returns c = one_expression
