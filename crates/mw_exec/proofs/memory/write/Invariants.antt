use Rattle.mw_exec.proofs.MemoryRules.{Writing}
use Rattle.mw_exec.proofs.memory.write.Given as goal

abbrev pub invariant-loop-i : goal.invariant-loop-i
invariant-loop-i l = Writing l.i l.at l.number l.rest l.initial.bytes.items l.bytes.items
