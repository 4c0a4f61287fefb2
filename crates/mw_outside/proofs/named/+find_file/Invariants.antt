use Rattle.std.proofs.Common.{length}
use Rattle.mw_outside.proofs.named.+find_file.Given as goal

abbrev pub decreases-find_file : goal.decreases-find_file
decreases-find_file l = length l.files.now
