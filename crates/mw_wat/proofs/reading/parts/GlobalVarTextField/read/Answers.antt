use Rattle.mw_wasm.specs.Views.{global_of}
use Rattle.mw_wat.specs.Modules.{global}
use Rattle.mw_wat.specs.Cursors.{tokens_at}
use Rattle.mw_wat.proofs.LookaheadOfModules.{local_global}
use Rattle.mw_wat.proofs.PartReaders.{gives_shorter}
use Rattle.mw_wat.proofs.reading.parts.GlobalVarTextField.read.Goals as goal

pub returns-clause-shorter : goal.returns-clause-shorter
returns-clause-shorter c =
    gives_shorter global local_global (tokens_at c.args.cursor) (λ x. global_of x.0) (λ x. tokens_at x.1)
    c.global.result c.global.ensures
