use Rattle.mw_wasm.proofs.InvalidExamples.{invalid_lists}
use Rattle.mw_wasm.proofs.laws.validity.invalid_lists.Goals as goal

pub returns : goal.returns
returns c = invalid_lists
