use Rattle.mw_wasm.proofs.InvalidExamples.{invalid_modules}
use Rattle.mw_wasm.proofs.laws.validity.invalid_modules.Goals as goal

pub returns : goal.returns
returns c = invalid_modules
