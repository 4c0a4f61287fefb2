use Rattle.std.proofs.Common.{refl, arith}
use Rattle.mw_exec.proofs.MemoryRules.{writing_more}
use Rattle.mw_exec.proofs.memory.write.Goals as goal

pub loop-i-preserved : goal.loop-i-preserved
loop-i-preserved c = writing_more c.loop-i.i c.args.at c.args.number c.loop-i.rest c.args.bytes.now.items
    c.loop-i.bytes.items _ c.loop-i.invariant (omega arith) refl
