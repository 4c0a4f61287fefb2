use Rattle.mw_wasm.proofs.ExamplesValid.{after_branch}
use Rattle.mw_wasm.proofs.laws.validity.code_after_branch_has_any_operands.Goals as goal

pub returns : goal.returns
returns c = after_branch
