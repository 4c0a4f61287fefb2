use Rattle.mw_lines.proofs.ImageSearch.{AreBlank}
use Rattle.mw_lines.proofs.made.Images.new.Given as goal

abbrev pub invariant-loop-line : goal.invariant-loop-line
invariant-loop-line l = AreBlank l.places.items l._line
