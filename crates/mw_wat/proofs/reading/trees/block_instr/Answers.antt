use Rattle.mw_wasm.specs.Views.{block_is}
use Rattle.mw_wat.proofs.reading.trees.block_instr.Goals as goal

pub returns : goal.returns
returns c = block_is c.args.kind c.args.body
