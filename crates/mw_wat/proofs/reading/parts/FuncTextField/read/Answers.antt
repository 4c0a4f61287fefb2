use Rattle.mw_wasm.specs.Views.{function_of}
use Rattle.mw_wat.specs.Modules.{function}
use Rattle.mw_wat.specs.Cursors.{tokens_at}
use Rattle.mw_wat.proofs.LookaheadOfModules.{local_function}
use Rattle.mw_wat.proofs.PartReaders.{gives_shorter}
use Rattle.mw_wat.proofs.reading.parts.FuncTextField.read.Goals as goal

pub returns-clause-shorter : goal.returns-clause-shorter
returns-clause-shorter c =
    gives_shorter function local_function (tokens_at c.args.cursor) (λ x. function_of x.0) (λ x. tokens_at x.1)
    c.function.result c.function.ensures
