use Rattle.std.proofs.Common.{◌+◌, ◌*◌}
use Rattle.mw_key.proofs.read.+grounds.Given as goal

abbrev pub decreases-ground : goal.decreases-ground
decreases-ground l = 2 * l.depth

abbrev pub decreases-ground_after : goal.decreases-ground_after
decreases-ground_after l = 2 * l.depth + 1
