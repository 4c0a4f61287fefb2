use Rattle.mw_wasm.specs.Views.{element_of}
use Rattle.mw_wat.specs.Modules.{element}
use Rattle.mw_wat.specs.Cursors.{tokens_at}
use Rattle.mw_wat.proofs.LookaheadOfModules.{local_element}
use Rattle.mw_wat.proofs.PartReaders.{gives_shorter}
use Rattle.mw_wat.proofs.reading.parts.ElementTextField.read.Goals as goal

pub returns-clause-shorter : goal.returns-clause-shorter
returns-clause-shorter c =
    gives_shorter element local_element (tokens_at c.args.cursor) (λ x. element_of x.0) (λ x. tokens_at x.1)
    c.element.result c.element.ensures
