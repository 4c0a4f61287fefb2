use Rattle.std.proofs.Common.{◌+◌, ◌*◌}
use Rattle.mw_key.proofs.read.+code.Given as goal

abbrev pub decreases-code : goal.decreases-code
decreases-code l = 3 * l.depth

abbrev pub decreases-code_of : goal.decreases-code_of
decreases-code_of l = 3 * l.depth + 2

abbrev pub decreases-boxed : goal.decreases-boxed
decreases-boxed l = 3 * l.depth + 1
