use Rattle.std.proofs.Common.{◌+◌, ◌*◌, max}
use Rattle.mw_term.specs.Terms.{expression_of, size}
use Rattle.mw_meaning.proofs.erasing.+erasing.Given as goal

abbrev pub decreases-erased_under : goal.decreases-erased_under
decreases-erased_under l = 3 * size (expression_of l.term.now)

abbrev pub decreases-boxed : goal.decreases-boxed
decreases-boxed l = 3 * size (expression_of l.term.now) + 1

abbrev pub decreases-both : goal.decreases-both
decreases-both l = 3 * max (size (expression_of l.first.now)) (size (expression_of l.second.now)) + 2
