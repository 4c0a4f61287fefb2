use Rattle.mw_wasm.specs.Views.{cond_is}
use Rattle.mw_wat.proofs.reading.trees.if_instr.Goals as goal

pub returns : goal.returns
returns c = cond_is c.args.kind c.args.first c.args.second
