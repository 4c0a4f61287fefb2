use Rattle.mw_scope.proofs.FaultlessPrograms.{one_nameless}
use Rattle.mw_scope.proofs.laws.one_nameless.Goals as goal

pub returns : goal.returns
returns c = one_nameless
