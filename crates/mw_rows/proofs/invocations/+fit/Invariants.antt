use Rattle.std.proofs.Common.{length}
use Rattle.mw_rows.proofs.invocations.+fit.Given as goal

abbrev pub decreases-fit : goal.decreases-fit
decreases-fit l = length l.values.now
