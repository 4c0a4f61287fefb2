use Rattle.mw_lines.specs.Tables.{lines_of, IsReading}
use Rattle.mw_tests.proofs.lines.read.Given as goal

abbrev pub invariant-loop-line : goal.invariant-loop-line
invariant-loop-line l = IsReading l.reader (lines_of l.reader.known)
