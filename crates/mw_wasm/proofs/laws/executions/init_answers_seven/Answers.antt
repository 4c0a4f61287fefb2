use Rattle.mw_wasm.proofs.ExecutionExamples.{init_answers_seven}
use Rattle.mw_wasm.proofs.laws.executions.init_answers_seven.Goals as goal

pub returns : goal.returns
returns c = init_answers_seven
