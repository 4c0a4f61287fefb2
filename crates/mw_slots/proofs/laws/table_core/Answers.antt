use Rattle.mw_slots.proofs.Machine.{core_holds}
use Rattle.mw_slots.proofs.laws.table_core.Goals as goal

pub returns : goal.returns
returns c = core_holds
