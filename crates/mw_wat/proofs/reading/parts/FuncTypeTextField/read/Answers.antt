use Rattle.mw_wat.specs.Modules.{function_type}
use Rattle.mw_wat.specs.Cursors.{tokens_at}
use Rattle.mw_wat.proofs.LookaheadOfModules.{local_function_type}
use Rattle.mw_wat.proofs.PartReaders.{gives_shorter}
use Rattle.mw_wat.proofs.reading.parts.FuncTypeTextField.read.Goals as goal

pub returns-clause-shorter : goal.returns-clause-shorter
returns-clause-shorter c =
    gives_shorter function_type local_function_type (tokens_at c.args.cursor) (λ x. x.0) (λ x. tokens_at x.1)
    c.function_type.result c.function_type.ensures
