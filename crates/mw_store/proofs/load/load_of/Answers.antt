use Rattle.mw_store.proofs.RecordSequences.{all_taken}
use Rattle.mw_store.proofs.load.load_of.Goals as goal

pub returns : goal.returns
returns c = all_taken c.args.bytes.now c.loop-more.load c.loop-more.invariant.loaded
    (c.loop-more.invariant.last c.loop-more-test.false)
