use Rattle.mw_wat.specs.Modules.{whole_module}
use Rattle.mw_wat.specs.Cursors.{tokens_at}
use Rattle.mw_wat.specs.Chain.{module_chain}
use Rattle.mw_wat.proofs.CursorReaders.{gives_same}
use Rattle.mw_wat.proofs.Chains.{module_is}
use Rattle.mw_wat.proofs.reading.module.whole.Goals as goal

pub returns : goal.returns
returns c =
    gives_same _ _ (module_chain (tokens_at c.args.cursor)) (whole_module (tokens_at c.args.cursor))
    (module_is (tokens_at c.args.cursor)) c.chain.ensures
