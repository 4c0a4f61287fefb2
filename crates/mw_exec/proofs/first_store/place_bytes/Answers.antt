use Rattle.std.proofs.Common.{refl, arith}
use Rattle.mw_exec.proofs.FirstStores.{pasted_more}
use Rattle.mw_exec.proofs.first_store.place_bytes.Goals as goal

pub loop-i-preserved : goal.loop-i-preserved
loop-i-preserved c = pasted_more c.args.bytes.now.items c.loop-i.bytes.items _ c.args.at c.loop-i.i c.args.segment.now _
    0 c.loop-i.invariant c.requires (omega arith) refl refl
