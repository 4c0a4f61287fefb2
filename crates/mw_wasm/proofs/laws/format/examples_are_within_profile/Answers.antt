use Rattle.mw_wasm.proofs.FormatCuts.{examples_are_within_profile}
use Rattle.mw_wasm.proofs.laws.format.examples_are_within_profile.Goals as goal

pub returns : goal.returns
returns c = examples_are_within_profile
