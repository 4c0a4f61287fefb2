use Rattle.mw_wasm.proofs.ExecutionExamples.{loop_is_spent}
use Rattle.mw_wasm.proofs.laws.executions.loop_is_spent.Goals as goal

pub returns : goal.returns
returns c = loop_is_spent
