use Rattle.mw_wasm.proofs.InvalidExamples.{valid_lists}
use Rattle.mw_wasm.proofs.laws.validity.valid_lists.Goals as goal

pub returns : goal.returns
returns c = valid_lists
