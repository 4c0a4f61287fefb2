use Rattle.mw_wasm.proofs.FormatModules.{one_module}
use Rattle.mw_wasm.proofs.laws.format.one_module.Goals as goal

pub returns : goal.returns
returns c = one_module
