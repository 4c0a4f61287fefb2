use Rattle.mw_scope.proofs.ScopedPrograms.{nameless_is_scoped}
use Rattle.mw_scope.proofs.laws.nameless_is_scoped.Goals as goal

pub returns : goal.returns
returns c = nameless_is_scoped
