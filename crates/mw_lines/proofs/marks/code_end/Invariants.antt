use Rattle.mw_lines.specs.Marks.{EndsCode}
use Rattle.mw_lines.proofs.marks.code_end.Given as goal

abbrev pub invariant-loop-place : goal.invariant-loop-place
invariant-loop-place l = EndsCode l.types l.places l.place-index l.end
