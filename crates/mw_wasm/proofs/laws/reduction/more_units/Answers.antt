use Rattle.mw_wasm.proofs.MoreUnits.{more_where_it_ends, more_where_it_traps}
use Rattle.mw_wasm.proofs.laws.reduction.more_units.Goals as goal

pub returns-clause-of_ended : goal.returns-clause-of_ended
returns-clause-of_ended c = more_where_it_ends

pub returns-clause-of_trapped : goal.returns-clause-of_trapped
returns-clause-of_trapped c = more_where_it_traps
