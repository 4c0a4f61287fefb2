use Rattle.std.proofs.Common.{length}
use Rattle.mw_outside.proofs.named.+names_differ_in.Given as goal

abbrev pub decreases-names_differ_in : goal.decreases-names_differ_in
decreases-names_differ_in l = length l.files.now
