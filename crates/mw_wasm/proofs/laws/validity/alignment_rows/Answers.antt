use Rattle.mw_wasm.proofs.InvalidExamples.{alignment_rows}
use Rattle.mw_wasm.proofs.laws.validity.alignment_rows.Goals as goal

pub returns : goal.returns
returns c = alignment_rows
