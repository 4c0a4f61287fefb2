use Rattle.std.proofs.Common.{length, take, ◌-◌, ◌≡◌, ◌≤◌, ◌++◌, IsTrue}
use Rattle.mw_console.proofs.lines.write_lines.Given as goal

-- a front of the text was written, and where it can be told nothing else
abbrev pub invariant-loop-done : goal.invariant-loop-done
invariant-loop-done g l =
    let sink = g.K.Sink in
    record {
      bound : l.done ≤ length l.text;
      front : IsTrue sink.tells → sink.written l.sink ≡ sink.written l.fn.sink ++ take l.done l.text;
      count : sink.faults l.sink ≡ sink.faults l.fn.sink;
    }

abbrev pub decreases-loop-done : goal.decreases-loop-done
decreases-loop-done g l = length l.text - l.done
