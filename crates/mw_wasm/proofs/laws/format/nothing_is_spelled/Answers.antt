use Rattle.mw_wasm.proofs.NothingSpelled.{nothing_is_spelled}
use Rattle.mw_wasm.proofs.laws.format.nothing_is_spelled.Goals as goal

pub returns : goal.returns
returns c = nothing_is_spelled
