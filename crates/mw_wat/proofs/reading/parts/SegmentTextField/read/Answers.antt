use Rattle.mw_wasm.specs.Views.{segment_of}
use Rattle.mw_wat.specs.Modules.{data_segment}
use Rattle.mw_wat.specs.Cursors.{tokens_at}
use Rattle.mw_wat.proofs.LookaheadOfModules.{local_data}
use Rattle.mw_wat.proofs.PartReaders.{gives_shorter}
use Rattle.mw_wat.proofs.reading.parts.SegmentTextField.read.Goals as goal

pub returns-clause-shorter : goal.returns-clause-shorter
returns-clause-shorter c =
    gives_shorter data_segment local_data (tokens_at c.args.cursor) (λ x. segment_of x.0) (λ x. tokens_at x.1)
    c.segment.result c.segment.ensures
