use Rattle.mw_wasm.proofs.OneRule.{one_rule}
use Rattle.mw_wasm.proofs.laws.reduction.one_rule.Goals as goal

pub returns : goal.returns
returns c = one_rule
