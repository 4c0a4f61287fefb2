use Rattle.mw_scope.proofs.FaultlessPrograms.{nameless_where_faultless}
use Rattle.mw_scope.proofs.laws.nameless_where_faultless.Goals as goal

pub returns : goal.returns
returns c = nameless_where_faultless
