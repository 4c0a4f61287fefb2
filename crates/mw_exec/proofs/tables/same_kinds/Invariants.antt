use Rattle.mw_exec.proofs.KindRules.{Comparing}
use Rattle.mw_exec.proofs.tables.same_kinds.Given as goal

abbrev pub invariant-loop-i : goal.invariant-loop-i
invariant-loop-i l = Comparing l.i l.a l.b
