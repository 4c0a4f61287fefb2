use Rattle.std.proofs.Common.{◌-◌, ◌≡◌, ◌≤◌, ◌++◌, IsTrue, vec_len}
use Rattle.mw_outside.proofs.reading.read_up_to.Given as goal

-- what was taken and what is left are what was left at first
abbrev pub invariant-loop-piece : goal.invariant-loop-piece
invariant-loop-piece g l =
    let source = g.S.Source in
    record {
      bound : vec_len l.taken ≤ l.most;
      moved : IsTrue source.tells → source.left l.fn.source ≡ l.taken.items ++ source.left l.source;
      ready : source.IsStarted l.source;
      same_files : source.told l.source ≡ source.told l.fn.source;
      count : source.faults l.source ≡ source.faults l.fn.source;
    }

abbrev pub decreases-loop-piece : goal.decreases-loop-piece
decreases-loop-piece g l = l.most - vec_len l.taken
