use Rattle.mw_scope.proofs.Progress.{at_place}
use Rattle.mw_scope.proofs.items.items.Goals as goal

pub loop-one-preserved : goal.loop-one-preserved
loop-one-preserved c =
    let made = c.in_ok-one.ensures in
    rw c.in_ok-push.ensures.ok (at_place c.args.list.now c.loop-one.one-index c.one-item.result c.loop-one-test.true
    c.one-item.is c.loop-one.done c.in_ok-one.one c.loop-one.names c.item.new.names c.args.first.now
    c.loop-one.first c.item.new.first c.len-index.result c.loop-one.invariant c.len-index.ensures made.name
    made.definition made.faults made.names)
