use Rattle.std.proofs.Common.{◌+◌, ◌*◌}
use Rattle.mw_term.specs.Terms.{expression_of, size}
use Rattle.mw_key.proofs.write.+code.Given as goal

abbrev pub decreases-put_code : goal.decreases-put_code
decreases-put_code l = 2 * size (expression_of l.code.now)

abbrev pub decreases-put_one : goal.decreases-put_one
decreases-put_one l = 2 * size (expression_of l.code.now) + 1

abbrev pub decreases-put_two : goal.decreases-put_two
decreases-put_two l = 2 * (size (expression_of l.first.now) + size (expression_of l.second.now)) + 1
