use Rattle.mw_scope.proofs.ExampleRows.{examples}
use Rattle.mw_scope.proofs.laws.examples_hold.Goals as goal

pub returns : goal.returns
returns c = examples
