use Rattle.std.proofs.Common.{◌+◌, ◌*◌}
use Rattle.mw_term.specs.Terms.{expression_of, size}
use Rattle.mw_conv.proofs.find.Finder.+find.Given as goal

abbrev pub decreases-find : goal.decreases-find
decreases-find l = 2 * size (expression_of l.term.now)

abbrev pub decreases-find_two : goal.decreases-find_two
decreases-find_two l = 2 * (size (expression_of l.first.now) + size (expression_of l.second.now)) + 1

abbrev pub decreases-find_function : goal.decreases-find_function
decreases-find_function l = 2 * size (expression_of l.body.now) + 1
