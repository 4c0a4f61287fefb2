use Rattle.std.proofs.Common.{length, drop, ◌-◌, ◌+◌, ◌≤◌, ◌≡◌}
use Rattle.mw_console.specs.Lines.{line_length}
use Rattle.mw_console.proofs.lines.line_end.Given as goal

abbrev pub invariant-loop-at : goal.invariant-loop-at
invariant-loop-at l = record {
  above : l.fn.from ≤ l.at;
  within : l.at ≤ length l.text;
  line : l.fn.from + line_length (drop l.fn.from l.text) ≡ l.at + line_length (drop l.at l.text);
}

abbrev pub decreases-loop-at : goal.decreases-loop-at
decreases-loop-at l = length l.text - l.at
