use Rattle.mw_wasm.proofs.ExamplesValid.{example_a_valid}
use Rattle.mw_wasm.proofs.laws.validity.constant_module_is_valid.Goals as goal

pub returns : goal.returns
returns c = example_a_valid
