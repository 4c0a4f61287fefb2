use Rattle.mw_wasm.proofs.Arguments.{two_parameters_want_two}
use Rattle.mw_wasm.proofs.laws.invocations.two_parameters_want_two.Goals as goal

pub returns : goal.returns
returns c = two_parameters_want_two
