use Rattle.mw_types.proofs.answer.+tree.Given as goal

abbrev pub decreases-tree : goal.decreases-tree
decreases-tree l = l.room
