use Rattle.mw_wasm.proofs.FormatCuts.{two_results_are_outside}
use Rattle.mw_wasm.proofs.laws.format.two_results_are_outside.Goals as goal

pub returns : goal.returns
returns c = two_results_are_outside
