use Rattle.std.proofs.Common.{◌+◌, ◌*◌}
use Rattle.mw_grammar.proofs.kinds.+grounds.Given as goal

-- room first, then the functions in turn

abbrev pub decreases-part_type : goal.decreases-part_type
decreases-part_type l = l.room * 10 + 1

abbrev pub decreases-ground_type : goal.decreases-ground_type
decreases-ground_type l = l.room * 10 + 2

abbrev pub decreases-paren_ground : goal.decreases-paren_ground
decreases-paren_ground l = l.room * 10 + 3
