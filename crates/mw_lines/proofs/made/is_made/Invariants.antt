use Rattle.mw_lines.proofs.ImageSearch.{IsFollowed}
use Rattle.mw_lines.proofs.made.is_made.Given as goal

abbrev pub invariant-loop-left : goal.invariant-loop-left
invariant-loop-left l = IsFollowed l.root l.here l.fn.root_at l.fn.at l.images l.left

abbrev pub decreases-loop-left : goal.decreases-loop-left
decreases-loop-left l = l.left
