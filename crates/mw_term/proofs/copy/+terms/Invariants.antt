use Rattle.std.proofs.Common.{◌+◌, ◌*◌, max}
use Rattle.mw_term.specs.declared.term.Term.TheBlock.{the_depth, member-Term}
use Rattle.mw_term.proofs.copy.+terms.Given as goal

abbrev pub decreases-copied_term : goal.decreases-copied_term
decreases-copied_term l = 3 * the_depth member-Term l.term.now

abbrev pub decreases-boxed_copy : goal.decreases-boxed_copy
decreases-boxed_copy l = 3 * the_depth member-Term l.term.now + 1

abbrev pub decreases-boxed_copies : goal.decreases-boxed_copies
decreases-boxed_copies l = 3 * max (the_depth member-Term l.first.now) (the_depth member-Term l.second.now) + 2
