use Rattle.mw_wasm.proofs.Arguments.{arguments_are_taken, other_arguments_are_lost}
use Rattle.mw_wasm.proofs.laws.invocations.arguments_have_their_types.Goals as goal

pub returns-clause-taken : goal.returns-clause-taken
returns-clause-taken c = arguments_are_taken

pub returns-clause-lost : goal.returns-clause-lost
returns-clause-lost c = other_arguments_are_lost
