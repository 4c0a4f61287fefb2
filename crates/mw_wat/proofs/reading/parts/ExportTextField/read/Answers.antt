use Rattle.mw_wasm.specs.Views.{export_of}
use Rattle.mw_wat.specs.Modules.{export}
use Rattle.mw_wat.specs.Cursors.{tokens_at}
use Rattle.mw_wat.proofs.LookaheadOfModules.{local_export}
use Rattle.mw_wat.proofs.PartReaders.{gives_shorter}
use Rattle.mw_wat.proofs.reading.parts.ExportTextField.read.Goals as goal

pub returns-clause-shorter : goal.returns-clause-shorter
returns-clause-shorter c =
    gives_shorter export local_export (tokens_at c.args.cursor) (λ x. export_of x.0) (λ x. tokens_at x.1)
    c.export.result c.export.ensures
