use Rattle.std.proofs.Common.{length}
use Rattle.mw_rows.proofs.phases.+all_gave.Given as goal

abbrev pub decreases-all_gave : goal.decreases-all_gave
decreases-all_gave l = length l.outcomes.now
