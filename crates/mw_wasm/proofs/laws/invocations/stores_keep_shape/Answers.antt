use Rattle.mw_wasm.proofs.StoreShape.{stores_keep_shape}
use Rattle.mw_wasm.proofs.laws.invocations.stores_keep_shape.Goals as goal

pub returns : goal.returns
returns c = stores_keep_shape
