use Rattle.mw_gen.proofs.Examples.{seven_is_emitted, cube_is_emitted}
use Rattle.mw_gen.proofs.laws.example_modules_are_emitted.Goals as goal

pub returns-clause-seven : goal.returns-clause-seven
returns-clause-seven c = seven_is_emitted

pub returns-clause-cube : goal.returns-clause-cube
returns-clause-cube c = cube_is_emitted
