use Rattle.std.proofs.Common.{◌≡◌, ◌-◌, []}
use Rattle.mw_lines.specs.Tables.{lines_of, IsReading}
use Rattle.mw_recheck.specs.Answers.{lines_after}
use Rattle.mw_recheck.proofs.section.type_lines.Given as goal

abbrev pub invariant-loop-line : goal.invariant-loop-line
invariant-loop-line l = record {
  reading : IsReading l.lines (lines_of l.lines.known);
  same : lines_after (lines_of l.lines.known) (l.count - l._line) l.rest ≡ lines_after [] l.count l.bytes;
}
