use Rattle.mw_lines.proofs.ClassifierMarks.{AreMarks, Walks}
use Rattle.mw_lines.proofs.marks.reaches.Given as goal

abbrev pub invariant-loop-place : goal.invariant-loop-place
invariant-loop-place l = AreMarks l.types l.places l.place-index l.marks

abbrev pub invariant-loop-left : goal.invariant-loop-left
invariant-loop-left l = Walks l.types l.classifier l.places l.marks l.left

abbrev pub decreases-loop-left : goal.decreases-loop-left
decreases-loop-left l = l.left
