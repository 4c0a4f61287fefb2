use Rattle.std.proofs.Common.{◌+◌, ◌*◌}
use Rattle.mw_key.proofs.passing.+pass.Given as goal

abbrev pub decreases-pass : goal.decreases-pass
decreases-pass l = 2 * l.depth

abbrev pub decreases-pass_parts : goal.decreases-pass_parts
decreases-pass_parts l = 2 * l.depth + 1
