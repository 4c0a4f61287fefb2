use Rattle.mw_wasm.proofs.ExamplesValid.{example_b_valid}
use Rattle.mw_wasm.proofs.laws.validity.cube_module_is_valid.Goals as goal

pub returns : goal.returns
returns c = example_b_valid
