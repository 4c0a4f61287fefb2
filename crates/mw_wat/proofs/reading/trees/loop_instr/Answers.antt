use Rattle.mw_wasm.specs.Views.{loop_is}
use Rattle.mw_wat.proofs.reading.trees.loop_instr.Goals as goal

pub returns : goal.returns
returns c = loop_is c.args.kind c.args.body
