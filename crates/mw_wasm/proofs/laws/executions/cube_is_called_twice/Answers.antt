use Rattle.mw_wasm.proofs.ExecutionExamples.{cube_is_called_twice}
use Rattle.mw_wasm.proofs.laws.executions.cube_is_called_twice.Goals as goal

pub returns : goal.returns
returns c = cube_is_called_twice
