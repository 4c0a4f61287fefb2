use Rattle.mw_wasm.proofs.FormatCuts.{depth_ends_at_500}
use Rattle.mw_wasm.proofs.laws.format.depth_ends_at_500.Goals as goal

pub returns : goal.returns
returns c = depth_ends_at_500
