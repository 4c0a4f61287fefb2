use Rattle.std.proofs.Common.{length}
use Rattle.mw_script.proofs.sources.+are_built.Given as goal

abbrev pub decreases-are_built : goal.decreases-are_built
decreases-are_built l = length l.items.now
