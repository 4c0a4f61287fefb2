use Rattle.std.proofs.Common.{◌≡◌, map, Some}
use Rattle.std.proofs.Math.Seq.{paste}
use Rattle.mw_exec.proofs.first_store.place_functions.Given as goal

abbrev pub invariant-loop-i : goal.invariant-loop-i
invariant-loop-i l = l.table.items ≡ paste l.initial.table.items l.at (map (λ f. Some f) l.funcs) l.i
